use Rattle.std.proofs.Common.{◌∙◌, ap}
use Rattle.std.specs.Int.{bit_at}
use Rattle.bitvec_base.specs.HiLoLaws.{hilo_permutes}
use Rattle.bitvec_base.specs.MaskLaws.{mask_of-is}
use Rattle.bitvec_base.proofs.hi_lo.HiLoBitOrder.mask.Goals as goal

pub returns : goal.returns
returns g c =
    mask_of-is g.R.BitStore.BITS _ (hilo_permutes g.R.BitStore.BITS g.met.R.BitStore.width_law) c.args.from c.args.to _
    c.requires.order c.requires.bound c.exchange_halves.ensures.in_range
    (λ i h. c.exchange_halves.ensures.bits i h ∙ ap (λ n. bit_at n i) c.ones.ensures)
