use Rattle.std.proofs.Common.{refl}
use Rattle.bitvec_slice.specs.WriteLaws.{written}
use Rattle.bitvec_slice.proofs.view_mut.BitSliceMut.swap_with_bitslice.Goals as goal

pub returns : goal.returns
returns g c = record {
  bits = written _ _ _ _ _ _ c.swap_with_block_in.ensures.writes c.elements_mut.ensures.elements c.window-window.ensures.value (rw (c.elements_mut-2.ensures.elements, c.window-other_window.ensures.value) refl);
  other_bits = written _ _ _ _ _ _ c.swap_with_block_in.ensures.right_writes c.elements_mut-2.ensures.elements c.window-other_window.ensures.value (rw (c.elements_mut.ensures.elements, c.window-window.ensures.value) refl);
}
