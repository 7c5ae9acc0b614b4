use Rattle.bitvec_slice.specs.WriteLaws.{written}
use Rattle.bitvec_in_place.proofs.exchanging.swap_with.Goals as goal

pub returns-clause-other_bits : goal.returns-clause-other_bits
returns-clause-other_bits g c =
    written _ _ _ _ _ _ c.swap_with_in.ensures.right_writes c.elements_mut.ensures.elements c.window-window.ensures.value c.span_in-part.ensures.bits
