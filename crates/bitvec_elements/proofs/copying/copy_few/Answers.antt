use Rattle.std.proofs.Common.{◌∙◌, map, rules, sym}
use Rattle.bitvec_base.specs.Memory.{list_in}
use Rattle.bitvec_base.specs.WritesLaws.{Writes-is, length-list}
use Rattle.bitvec_words.specs.MovedLaws.{take-word}
use Rattle.bitvec_elements.proofs.copying.copy_few.Goals as goal

pub returns : goal.returns
returns g c =
    let list = list_in g.T.BitStore.BITS g.W.BitOrder.at (map g.T.BitStore.value c.args.right.now) c.args.from in
    let long = length-list g.W.BitOrder.at c.requires.span.beside in
    let wrote = rw c.new-cells.ensures.numbers at c.store_parts.ensures.writes in
    let done = Writes-is wrote (take-word 64 list (rw c.new-source.ensures.numbers at c.load_parts-word.ensures.value) (c.requires.span.lengths ∙ sym long)) in
    record { writes = record { bits = search (rules, done.bits); long = done.long; elements = search (rules, done.elements) } }
