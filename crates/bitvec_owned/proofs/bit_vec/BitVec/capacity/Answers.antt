use Rattle.std.proofs.Common.{arith, vec_capacity}
use Rattle.bitvec_store.specs.WidthLaws.{width_some}
use Rattle.bitvec_owned.proofs.Rooms.{usable-fits}
use Rattle.bitvec_owned.specs.WritesLaws.{held}
use Rattle.bitvec_owned.proofs.bit_vec.BitVec.capacity.Goals as goal

pub bits_of-requires : goal.bits_of-requires
bits_of-requires g c = rw (c.min-elements.ensures, c.capacity.ensures, c.most_elements.ensures) (usable-fits g.T.BitStore.BITS (width_some _ g.met.T.BitStore.width_law) (vec_capacity c.args.self.now.elements))

pub overflow_sub-result : goal.overflow_sub-result
overflow_sub-result g c =
    let held = held (width_some _ g.met.T.BitStore.width_law) c.args.self.now in
    rw (c.bits_of.ensures, c.min-elements.ensures, c.capacity.ensures, c.most_elements.ensures) (omega arith)
