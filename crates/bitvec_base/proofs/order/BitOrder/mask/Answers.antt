use Rattle.std.proofs.Common.{◌≡◌, ℕ, ◌<◌, arith, sym, subst, ◌∙◌}
use Rattle.bitvec_base.specs.Order.{mask_of}
use Rattle.bitvec_base.specs.MaskLaws.{mask_of-none, mask_of-step}
use Rattle.bitvec_base.proofs.order.BitOrder.mask.Goals as goal

pub loop-index-init : goal.loop-index-init
loop-index-init g c = rw c.ZERO-mask.ensures (g.met.R.BitStore.zero_law ∙ sym (mask_of-none _ c.args.from))

pub loop-index-preserved : goal.loop-index-preserved
loop-index-preserved g c =
    let lawful = g.met.Self.BitOrder.permutes g.R.BitStore.BITS g.met.R.BitStore.width_law in
    let inside : c.loop-index.index < g.R.BitStore.BITS = omega arith in
    rw (c.or-mask.ensures, c.loop-index.invariant, c.select.ensures)
    (mask_of-step _ _ lawful _ _ c.loop-index.auto.index inside)

pub returns : goal.returns
returns g c =
    let all : c.loop-index.index ≡ c.args.to = omega arith in
    subst (λ (i : ℕ). g.R.BitStore.value c.loop-index.mask ≡ mask_of (g.Self.BitOrder.at g.R.BitStore.BITS) c.args.from i) all c.loop-index.invariant
