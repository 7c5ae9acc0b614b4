use Rattle.std.proofs.Common.{refl}
use Rattle.bitvec_slice.specs.WriteLaws.{written}
use Rattle.bitvec_slice.proofs.operators.combine.Goals as goal

pub returns : goal.returns
returns g c = written _ _ _ _ _ _ c.combine_block_in.ensures.writes c.elements_mut.ensures.elements c.window-window.ensures.value (rw (c.elements_mut.ensures.elements, c.window-window.ensures.value, c.elements.ensures, c.window-from.ensures.value) refl)
