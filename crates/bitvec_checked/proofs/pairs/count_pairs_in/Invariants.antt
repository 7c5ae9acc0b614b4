use Rattle.std.specs.Prelude.{Bool, count_by}
use Rattle.std.proofs.Common.{◌≡◌, ◌-◌, ◌≤◌, map, slice_range}
use Rattle.bitvec_base.specs.Lists.{combined}
use Rattle.bitvec_base.specs.Memory.{list_in}
use Rattle.bitvec_checked.specs.Pairs.{looks_for}
use Rattle.bitvec_checked.proofs.pairs.count_pairs_in.Given as goal

abbrev pub invariant-loop-from : goal.invariant-loop-from
invariant-loop-from g l =
    let b = g.T.BitStore.BITS in
    let at = g.O.BitOrder.at in
    let list = combined (looks_for l.pair) (list_in b at (map g.T.BitStore.value l.elements) l.window) (list_in b at (map g.T.BitStore.value l.right) l.right_window) in
    record {
      fits : l.from ≤ l.window.len;
      pairs : l.pairs ≡ count_by (λ (bit : Bool). bit) (slice_range list 0 l.from);
    }

abbrev pub decreases-loop-from : goal.decreases-loop-from
decreases-loop-from g l = l.window.len - l.from
