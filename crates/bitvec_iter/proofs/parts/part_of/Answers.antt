use Rattle.bitvec_store.specs.WidthLaws.{width_some}
use Rattle.bitvec_iter.proofs.PartLaws.{part_seen}
use Rattle.bitvec_iter.proofs.parts.part_of.Goals as goal

pub returns : goal.returns
returns g c = part_seen c.args.view c.into_part.result c.args.places (width_some _ g.met.T.BitStore.width_law) c.requires c.into_part.ensures
