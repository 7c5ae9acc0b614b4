use Rattle.std.proofs.Common.{◌∙◌, rules}
use Rattle.std.proofs.lemmas.List.Edits.{length-swap}
use Rattle.bitvec_base.specs.MemoryLaws.{within-bits}
use Rattle.bitvec_base.specs.WindowLaws.{length-window, swap-writes}
use Rattle.bitvec_cells.proofs.swap.swap_bits.Goals as goal

pub returns-clause-writes : goal.returns-clause-writes
returns-clause-writes g c =
    let lies = within-bits g.C.Elem.BitStore.BITS g.O.BitOrder.at (g.C.CellsRead.numbers c.args.cells.now) c.args.window c.requires.window.within in
    record {
      bits = rw (c.replace_bit.ensures.writes.bits, c.replace_bit-first_bit.ensures.writes.bits, c.replace_bit-first_bit.ensures.value, c.get_bit-second_bit.ensures.reads.numbers, c.get_bit-second_bit.ensures.value)
          (swap-writes _ _ _ _ _ lies c.requires.first c.requires.second);
      long = length-swap _ _ _ ∙ length-window _ _ lies;
      elements = search rules;
    }
