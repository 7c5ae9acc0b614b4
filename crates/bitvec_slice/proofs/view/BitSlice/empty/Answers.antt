use Rattle.bitvec_slice.specs.SeenLaws.{no_view}
use Rattle.bitvec_slice.proofs.view.BitSlice.empty.Goals as goal

pub returns : goal.returns
returns g c = no_view _ _ _ _ c.from_slice.ensures
