use Rattle.std.proofs.Common.{arith}
use Rattle.bitvec_base.specs.CompareLaws.{order-differ, order-same}
use Rattle.bitvec_base.specs.WritesLaws.{length-list}
use Rattle.bitvec_passes.proofs.by_bits.compare.Goals as goal

pub returns-then-bit-other-clause-value : goal.returns-then-bit-other-clause-value
returns-then-bit-other-clause-value g c =
    let inv = c.loop-index.invariant in
    let left = length-list g.O.BitOrder.at c.requires.window in
    let right = length-list g.P.BitOrder.at c.requires.right_window in
    rw c.cmp.ensures (order-differ _ _ c.loop-index.index (omega arith) (omega arith) inv.same (rw inv.reads.numbers at c.get_bit-bit.ensures.value) (rw inv.right.numbers at c.get_bit-other.ensures.value) c.if-bit-other.true)

pub returns-clause-value : goal.returns-clause-value
returns-clause-value g c =
    rw c.cmp-2.ensures (order-same _ _ c.loop-index.index (length-list _ c.requires.window) (length-list _ c.requires.right_window) (omega arith) c.loop-index.invariant.same)
