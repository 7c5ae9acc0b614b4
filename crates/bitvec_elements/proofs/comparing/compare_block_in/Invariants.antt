use Rattle.std.proofs.Common.{◌-◌, ◌≤◌, map}
use Rattle.bitvec_base.specs.CompareLaws.{SameBelow}
use Rattle.bitvec_base.specs.Memory.{list_in}
use Rattle.bitvec_elements.proofs.comparing.compare_block_in.Given as goal

abbrev pub invariant-loop-from : goal.invariant-loop-from
invariant-loop-from g l =
    let list = list_in g.T.BitStore.BITS g.O.BitOrder.at (map g.T.BitStore.value l.left) l.left_window in
    let right_list = list_in g.T.BitStore.BITS g.O.BitOrder.at (map g.T.BitStore.value l.right) l.right_window in
    record {
      fits : l.from ≤ l.len;
      same : SameBelow list right_list l.from;
    }

abbrev pub decreases-loop-from : goal.decreases-loop-from
decreases-loop-from g l = l.len - l.from
