use Rattle.std.proofs.Common.{sym, ◌∙◌}
use Rattle.bitvec_base.specs.Memory.{place_bit}
use Rattle.bitvec_cells.proofs.BitLemmas.{tested, get-window}
use Rattle.bitvec_cells.proofs.bit.get_bit.Goals as goal

pub returns-clause-value : goal.returns-clause-value
unfolding place_bit
returns-clause-value g c =
    rw (c.to_u128.ensures.number, c.and.ensures, c.load-element.ensures.value, c.select.ensures, c.BITS-bits.ensures)
    (tested _ _ ∙ sym (get-window _ _ _ c.requires.window.within c.requires.bound))
