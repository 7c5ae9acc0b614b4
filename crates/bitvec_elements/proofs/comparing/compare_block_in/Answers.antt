use Rattle.std.proofs.Common.{◌+◌, ◌∙◌, arith, sym}
use Rattle.bitvec_base.specs.CompareLaws.{order-behind, order-same, same-stretch}
use Rattle.bitvec_base.specs.WritesLaws.{length-list, list-after, list-range}
use Rattle.bitvec_elements.proofs.comparing.compare_block_in.Goals as goal

pub returns-then-not-eq_blocks_in : goal.returns-then-not-eq_blocks_in
returns-then-not-eq_blocks_in g c =
    let at = g.O.BitOrder.at in
    let inv = c.loop-from.invariant in
    let left = length-list at c.requires.window in
    let right = length-list at c.requires.right_window in
    rw (c.compare_at.ensures, c.after-rest.ensures, c.after-other.ensures, list-after at c.loop-from.from c.requires.window (omega arith), list-after at c.loop-from.from c.requires.right_window (omega arith))
    (order-behind _ _ c.loop-from.from (omega arith) (omega arith) inv.same)

pub loop-from-preserved : goal.loop-from-preserved
loop-from-preserved g c =
    let at = g.O.BitOrder.at in
    let from = c.loop-from.from in
    let to = from + c.min.result in
    let left = list-range at from to c.requires.window (omega arith) (omega arith) in
    let right = list-range at from to c.requires.right_window (omega arith) (omega arith) in
    let same = rw (c.range-part.ensures, c.range-other.ensures, left, right) at c.eq_blocks_in.ensures in
    record {
      fits = omega arith;
      same = same-stretch _ _ from to c.loop-from.invariant.same (sym same ∙ c.if-not-eq_blocks_in.false);
    }

pub returns : goal.returns
returns g c =
    let at = g.O.BitOrder.at in
    rw c.cmp.ensures (order-same _ _ c.loop-from.from (length-list at c.requires.window) (length-list at c.requires.right_window) (omega arith) c.loop-from.invariant.same)
