use Rattle.std.proofs.Common.{◌≡◌, ℕ, ◌<◌}
use Rattle.bitvec_engine.proofs.order_direction.agrees.Given as goal

abbrev pub invariant-loop-index : goal.invariant-loop-index
invariant-loop-index g l = (i : ℕ) → i < l.index → g.O.BitOrder.at g.T.BitStore.BITS i ≡ g.P.BitOrder.at g.T.BitStore.BITS i
