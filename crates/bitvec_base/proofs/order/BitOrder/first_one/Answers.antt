use Rattle.std.proofs.Common.{◌≡◌, arith, true, ◌∙◌}
use Rattle.bitvec_base.specs.FoundLaws.{first-one_here, first-one_not_here, first-one_nowhere}
use Rattle.bitvec_base.specs.Memory.{element_bits}
use Rattle.bitvec_base.specs.ScanLaws.{first-empty}
use Rattle.bitvec_base.proofs.order.BitOrder.first_one.Goals as goal

pub loop-index-init : goal.loop-index-init
loop-index-init g c = first-empty true (element_bits g.R.BitStore.BITS g.Self.BitOrder.at (g.R.BitStore.value c.args.element)) 0

pub returns-then-to_u128-ne0 : goal.returns-then-to_u128-ne0
returns-then-to_u128-ne0 g c =
    first-one_here g.R.BitStore.BITS g.Self.BitOrder.at _ c.loop-index.index _ (omega arith) c.loop-index.invariant (rw c.select.ensures at (c.to_u128.ensures.number ∙ c.and.ensures)) c.if-to_u128-ne0.true

pub loop-index-preserved : goal.loop-index-preserved
loop-index-preserved g c =
    first-one_not_here g.R.BitStore.BITS g.Self.BitOrder.at _ c.loop-index.index _ (omega arith) c.loop-index.invariant (rw c.select.ensures at (c.to_u128.ensures.number ∙ c.and.ensures)) c.if-to_u128-ne0.false

pub returns : goal.returns
returns g c =
    let all : c.loop-index.index ≡ g.R.BitStore.BITS = omega arith in
    first-one_nowhere g.Self.BitOrder.at _ all c.loop-index.invariant
