use Rattle.std.proofs.Common.{◌≡◌, ◌≤◌, None, true, slice_range}
use Rattle.bitvec_base.specs.Lists.{last_place}
use Rattle.bitvec_base.specs.Memory.{element_bits}
use Rattle.bitvec_base.proofs.order.BitOrder.last_one.Given as goal

-- none of the bits so far is 1
abbrev pub invariant-loop-index : goal.invariant-loop-index
invariant-loop-index g l = record {
  high : l.index ≤ g.R.BitStore.BITS;
  none : last_place true (slice_range (element_bits g.R.BitStore.BITS g.Self.BitOrder.at (g.R.BitStore.value l.element)) l.index g.R.BitStore.BITS) ≡ None;
}
