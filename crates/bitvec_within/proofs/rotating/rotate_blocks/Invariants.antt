use Rattle.std.proofs.Common.{◌≡◌, ◌+◌, ◌-◌, ◌≤◌, map, min}
use Rattle.bitvec_base.specs.Lists.{rotated_left}
use Rattle.bitvec_base.specs.Memory.{Writes, list_in}
use Rattle.bitvec_within.proofs.Rotated.{rotated_behind}
use Rattle.bitvec_within.proofs.rotating.rotate_blocks.Given as goal

abbrev pub invariant-loop-count : goal.invariant-loop-count
invariant-loop-count g l =
    let b = g.T.BitStore.BITS in
    let at = g.O.BitOrder.at in
    let before = map g.T.BitStore.value l.fn.elements in
    let now = map g.T.BitStore.value l.elements in
    record {
      within : l.done + l.left ≤ l.window.len;
      shorter : l.count ≡ min l.left (l.window.len - l.done - l.left);
      writes : Writes b at before now l.window (list_in b at now l.window);
      rotated : rotated_behind l.done l.left (list_in b at now l.window) ≡ rotated_left l.by (list_in b at before l.window);
    }

abbrev pub decreases-loop-count : goal.decreases-loop-count
decreases-loop-count g l = l.window.len - l.done
