use Rattle.std.proofs.Common.{ℕ, ◌-◌, ◌^◌, ◌∙◌, ap}
use Rattle.bitvec_base.specs.MaskLaws.{mask_of-msb0}
use Rattle.bitvec_base.proofs.msb0.Msb0BitOrder.mask.Goals as goal

pub returns : goal.returns
returns g c =
    c.ones.ensures
    ∙ ap (λ (b : ℕ). 2 ^ (b - c.args.from) - 2 ^ (b - c.args.to)) c.BITS-bits.ensures
    ∙ mask_of-msb0 g.R.BitStore.BITS g.met.R.BitStore.width_law c.args.from c.args.to c.requires.order c.requires.bound
