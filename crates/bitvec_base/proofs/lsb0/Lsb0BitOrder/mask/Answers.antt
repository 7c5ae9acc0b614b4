use Rattle.std.proofs.Common.{◌∙◌}
use Rattle.bitvec_base.specs.MaskLaws.{mask_of-lsb0}
use Rattle.bitvec_base.proofs.lsb0.Lsb0BitOrder.mask.Goals as goal

pub returns : goal.returns
returns g c = c.ones.ensures ∙ mask_of-lsb0 g.R.BitStore.BITS g.met.R.BitStore.width_law c.args.from c.args.to c.requires.order c.requires.bound
