use Rattle.std.proofs.Common.{◌≡◌, length, map}
use Rattle.bitvec_base.specs.Memory.{memory_bits}
use Rattle.bitvec_within.specs.Ranges.{HasRanges, combined_ranges}
use Rattle.bitvec_within.proofs.combining_within.combine_blocks.Given as goal

abbrev pub invariant-loop-left : goal.invariant-loop-left
invariant-loop-left g l =
    let b = g.T.BitStore.BITS in
    let at = g.O.BitOrder.at in
    let before = map g.T.BitStore.value l.fn.elements in
    let now = map g.T.BitStore.value l.elements in
    record {
      ranges : HasRanges b now l.left;
      done : combined_ranges l.op l.left (memory_bits b at now) ≡ combined_ranges l.op l.fn.ranges (memory_bits b at before);
      kept : length now ≡ length before;
    }

abbrev pub decreases-loop-left : goal.decreases-loop-left
decreases-loop-left g l = l.left.len
