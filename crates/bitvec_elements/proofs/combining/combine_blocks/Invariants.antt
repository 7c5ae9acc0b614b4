use Rattle.std.proofs.Common.{◌≡◌, ◌-◌, ◌≤◌, length, map, take}
use Rattle.bitvec_base.specs.Lists.{combined}
use Rattle.bitvec_base.specs.Memory.{Writes, list_in}
use Rattle.bitvec_words.specs.Operator.{operator}
use Rattle.bitvec_elements.proofs.StoreLemmas.{until}
use Rattle.bitvec_elements.proofs.combining.combine_blocks.Given as goal

abbrev pub invariant-loop-start : goal.invariant-loop-start
invariant-loop-start g l =
    let b = g.T.BitStore.BITS in
    let at = g.W.BitOrder.at in
    let before = map g.T.BitStore.value l.fn.left in
    let list = list_in b at before l.to in
    let other = list_in g.U.BitStore.BITS g.P.BitOrder.at (map g.U.BitStore.value l.right) l.from in
    record {
      fits : l.start ≤ l.to.len;
      count : length l.block ≡ g.row.HELD;
      writes : Writes b at before (map g.T.BitStore.value l.left) (until l.to l.start) (take l.start (combined (operator l.op) list other));
    }

abbrev pub decreases-loop-start : goal.decreases-loop-start
decreases-loop-start g l = l.to.len - l.start
