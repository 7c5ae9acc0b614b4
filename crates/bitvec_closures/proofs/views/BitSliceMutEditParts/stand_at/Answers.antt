use Rattle.bitvec_slice.specs.SeenLaws.{length-memory}
use Rattle.bitvec_slice.specs.Views.{seen_mut}
use Rattle.bitvec_closures.proofs.views.BitSliceMutEditParts.stand_at.Goals as goal

pub stand_at-requires : goal.stand_at-requires
stand_at-requires g c = rw (length-memory g.T.BitStore.BITS g.O.BitOrder.at g.T.BitStore.value (seen_mut c.args.self.now).elements) at c.requires
