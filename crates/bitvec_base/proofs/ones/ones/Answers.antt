use Rattle.bitvec_base.specs.MaskLaws.{ones_moved}
use Rattle.bitvec_base.proofs.ones.ones.Goals as goal

pub returns : goal.returns
returns g c =
    rw (c.shl.ensures, c.shr.ensures, c.ALL.ensures, c.BITS.ensures, g.met.R.BitStore.all_law)
    (ones_moved g.R.BitStore.BITS c.args.from c.args.to c.requires.order c.requires.bound)
