use Rattle.std.proofs.Common.{◌-◌, map}
use Rattle.bitvec_domain.specs.Predicates.{MayAskTimes}
use Rattle.bitvec_owned.proofs.Kept.{Moved}
use Rattle.bitvec_owned.proofs.growing.retaining.move_kept.Given as goal

abbrev pub invariant-loop-index : goal.invariant-loop-index
invariant-loop-index g l = record {
  moved : Moved g.P.FnMut l.fn.pred g.T.BitStore.BITS g.O.BitOrder.at (map g.T.BitStore.value l.fn.elements) l.window l.pred (map g.T.BitStore.value l.elements) l.index l.kept;
  callable : MayAskTimes g.P.FnMut l.window.len (l.window.len - l.index) l.pred;
}
