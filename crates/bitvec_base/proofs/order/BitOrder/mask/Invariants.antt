use Rattle.std.proofs.Common.{◌≡◌}
use Rattle.bitvec_base.specs.Order.{mask_of}
use Rattle.bitvec_base.proofs.order.BitOrder.mask.Given as goal

-- the indices so far are in the mask
abbrev pub invariant-loop-index : goal.invariant-loop-index
invariant-loop-index g l = g.R.BitStore.value l.mask ≡ mask_of (g.Self.BitOrder.at g.R.BitStore.BITS) l.from l.index
