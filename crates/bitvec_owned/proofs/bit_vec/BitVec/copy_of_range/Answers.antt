use Rattle.bitvec_store.specs.WidthLaws.{width_some}
use Rattle.bitvec_owned.specs.WritesLaws.{owned-room}
use Rattle.bitvec_owned.proofs.bit_vec.BitVec.copy_of_range.Goals as goal

pub returns-clause-capacity : goal.returns-clause-capacity
returns-clause-capacity g c = owned-room (width_some _ g.met.T.BitStore.width_law) c.extend_from_block.new.self
