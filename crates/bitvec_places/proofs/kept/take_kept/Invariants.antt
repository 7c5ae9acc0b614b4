use Rattle.std.proofs.Common.{◌-◌, map}
use Rattle.bitvec_base.specs.Memory.{list_in}
use Rattle.bitvec_places.specs.Kept.{Keeps}
use Rattle.bitvec_places.proofs.kept.take_kept.Given as goal

abbrev pub invariant-loop-kept : goal.invariant-loop-kept
invariant-loop-kept g l = Keeps l.want (list_in g.T.BitStore.BITS g.O.BitOrder.at (map g.T.BitStore.value l.elements) l.window) l.rest l.kept

abbrev pub decreases-loop-kept : goal.decreases-loop-kept
decreases-loop-kept g l = l.rest.back - l.kept.edge
