use Rattle.std.proofs.Common.{arith}
use Rattle.bitvec_base.specs.CompareLaws.{order-same}
use Rattle.bitvec_base.specs.WritesLaws.{length-list}
use Rattle.bitvec_elements.proofs.DifferenceLemmas.{common-differ}
use Rattle.bitvec_elements.proofs.comparing.compare_at.Goals as goal

pub returns-then-common-min : goal.returns-then-common-min
returns-then-common-min g c =
    let left = length-list g.O.BitOrder.at c.requires.window in
    let right = length-list g.P.BitOrder.at c.requires.right_window in
    let bit = rw c.new-left.ensures.numbers at c.get_bit-bit.ensures.value in
    let other = rw c.new-right.ensures.numbers at c.get_bit-other.ensures.value in
    rw c.cmp.ensures (common-differ c.requires.common (omega arith) bit other)

pub returns : goal.returns
returns g c =
    rw c.cmp-2.ensures (order-same _ _ c.args.common (length-list _ c.requires.window) (length-list _ c.requires.right_window) (omega arith) c.requires.common.same)
