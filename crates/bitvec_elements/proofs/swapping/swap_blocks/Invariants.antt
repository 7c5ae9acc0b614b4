use Rattle.std.proofs.Common.{◌≡◌, ◌-◌, ◌≤◌, length, map, take}
use Rattle.bitvec_base.specs.Memory.{Writes, list_in}
use Rattle.bitvec_elements.proofs.StoreLemmas.{until}
use Rattle.bitvec_elements.proofs.swapping.swap_blocks.Given as goal

abbrev pub invariant-loop-from : goal.invariant-loop-from
invariant-loop-from g l =
    let before = map g.T.BitStore.value l.fn.left in
    let right_before = map g.U.BitStore.value l.fn.right in
    let list = list_in g.T.BitStore.BITS g.W.BitOrder.at before l.left_window in
    let right_list = list_in g.U.BitStore.BITS g.P.BitOrder.at right_before l.right_window in
    record {
      fits : l.from ≤ l.left_window.len;
      count : length l.block ≡ g.row.HELD;
      writes : Writes g.T.BitStore.BITS g.W.BitOrder.at before (map g.T.BitStore.value l.left) (until l.left_window l.from) (take l.from right_list);
      right_writes : Writes g.U.BitStore.BITS g.P.BitOrder.at right_before (map g.U.BitStore.value l.right) (until l.right_window l.from) (take l.from list);
    }

abbrev pub decreases-loop-from : goal.decreases-loop-from
decreases-loop-from g l = l.left_window.len - l.from
