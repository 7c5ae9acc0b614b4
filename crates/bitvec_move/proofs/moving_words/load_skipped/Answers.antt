use Rattle.std.proofs.Common.{◌∙◌}
use Rattle.bitvec_base.specs.MemoryLaws.{length-element_bits}
use Rattle.bitvec_move.proofs.WordMoveLemmas.{word-behind}
use Rattle.bitvec_move.proofs.moving_words.load_skipped.Goals as goal

pub returns-clause-value : goal.returns-clause-value
returns-clause-value g c =
    let at = g.O.BitOrder.at in
    let xs = g.C.CellsRead.numbers c.args.cells.now in
    let bytes = c.requires.bytes in
    let window = rw bytes at c.requires.window in
    let word = rw bytes at c.load_elements-word.ensures.value in
    let behind = rw (bytes, c.load.ensures.value, c.load_elements-word.ensures.reads.numbers) at c.placed-behind.ensures in
    rw bytes (c.joined.ensures
    ∙ rw word (word-behind at xs c.args.source c.args.skip _ window c.requires.some c.requires.bound (length-element_bits 64 at c.placed-behind.result) behind))
