use Rattle.std.proofs.Common.{◌≡◌, arith, true, ◌∙◌}
use Rattle.bitvec_base.specs.FoundLaws.{last-one_here, last-one_not_here, last-one_nowhere}
use Rattle.bitvec_base.specs.ScanLaws.{last-empty}
use Rattle.bitvec_base.proofs.order.BitOrder.last_one.Goals as goal

pub loop-index-init : goal.loop-index-init
loop-index-init g c = record {
  high = omega arith;
  none = rw c.BITS-index.ensures (last-empty true _ g.R.BitStore.BITS);
}

pub returns-then-to_u128-ne0 : goal.returns-then-to_u128-ne0
returns-then-to_u128-ne0 g c =
    let inv = c.loop-index.invariant in
    last-one_here g.R.BitStore.BITS g.Self.BitOrder.at _ c.loop-index.index _ (omega arith) inv.high inv.none (rw c.select.ensures at (c.to_u128.ensures.number ∙ c.and.ensures)) c.if-to_u128-ne0.true

pub loop-index-preserved : goal.loop-index-preserved
loop-index-preserved g c =
    let inv = c.loop-index.invariant in
    record {
      high = omega arith;
      none = last-one_not_here g.R.BitStore.BITS g.Self.BitOrder.at _ c.loop-index.index _ (omega arith) inv.high inv.none (rw c.select.ensures at (c.to_u128.ensures.number ∙ c.and.ensures)) c.if-to_u128-ne0.false;
    }

pub returns : goal.returns
returns g c =
    let none : c.loop-index.index ≡ 0 = omega arith in
    last-one_nowhere g.R.BitStore.BITS g.Self.BitOrder.at _ c.loop-index.index none c.loop-index.invariant.none
