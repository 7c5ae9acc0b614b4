use Rattle.std.proofs.Common.{rules}
use Rattle.bitvec_slice.specs.WriteLaws.{written}
use Rattle.bitvec_field.proofs.views.BitSliceMutBitFieldMut.store_be.Goals as goal

pub returns : goal.returns
returns g c = written _ _ _ _ _ _ c.store_be_in.ensures.writes c.elements_mut.ensures.elements c.window-window.ensures.value (search rules)
