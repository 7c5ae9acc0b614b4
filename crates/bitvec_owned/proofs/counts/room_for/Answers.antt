use Rattle.std.proofs.Common.{◌/◌, arith}
use Rattle.bitvec_base.specs.Window.{max_bits}
use Rattle.bitvec_store.specs.WidthLaws.{width_some}
use Rattle.bitvec_owned.proofs.Rooms.{past-fit}
use Rattle.bitvec_owned.proofs.counts.room_for.Goals as goal

pub returns-then-count-most_elements-clause-full : goal.returns-then-count-most_elements-clause-full
returns-then-count-most_elements-clause-full g c =
    past-fit g.T.BitStore.BITS (width_some _ g.met.T.BitStore.width_law) c.args.bits (max_bits / g.T.BitStore.BITS) (omega arith)
