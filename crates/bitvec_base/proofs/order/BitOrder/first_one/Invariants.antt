use Rattle.std.proofs.Common.{◌≡◌, None, true, slice_range}
use Rattle.bitvec_base.specs.Lists.{first_place}
use Rattle.bitvec_base.specs.Memory.{element_bits}
use Rattle.bitvec_base.proofs.order.BitOrder.first_one.Given as goal

-- none of the bits so far is 1
abbrev pub invariant-loop-index : goal.invariant-loop-index
invariant-loop-index g l = first_place true (slice_range (element_bits g.R.BitStore.BITS g.Self.BitOrder.at (g.R.BitStore.value l.element)) 0 l.index) ≡ None
