use Rattle.std.proofs.Common.{◌≡◌, ℕ, ◌+◌, ◌-◌, ◌<◌, ◌≤◌, false, map}
use Rattle.bitvec_base.specs.Lists.{stands_at}
use Rattle.bitvec_base.specs.Memory.{list_in}
use Rattle.bitvec_elements.specs.BitsFrom.{HasBitsFrom}
use Rattle.bitvec_within.proofs.needles.contains_by.Given as goal

abbrev pub invariant-loop-from : goal.invariant-loop-from
invariant-loop-from g l =
    let list = list_in g.T.BitStore.BITS g.O.BitOrder.at (map g.T.BitStore.value l.left) l.left_window in
    let part = list_in g.U.BitStore.BITS g.P.BitOrder.at (map g.U.BitStore.value l.right) l.right_window in
    record {
      bound : l.from ≤ l.last + 64;
      low : HasBitsFrom g.W.BitOrder.at l.low list l.from;
      absent : (k : ℕ) → k < l.from → stands_at part list k ≡ false;
    }

abbrev pub decreases-loop-from : goal.decreases-loop-from
decreases-loop-from g l = l.last + 64 - l.from
