use Rattle.bitvec_base.specs.HiLoLaws.{halves-exchanged}
use Rattle.bitvec_base.proofs.hi_lo.exchange_halves.Goals as goal

pub returns-clause-bits : goal.returns-clause-bits
returns-clause-bits g c i h =
    rw (c.or-exchanged.ensures, c.and-moved_up.ensures, c.and-moved_down.ensures, c.shl.ensures, c.shr.ensures, c.not.ensures, c.low_halves-low.ensures)
    (halves-exchanged g.R.BitStore.BITS g.met.R.BitStore.width_law _ i h)
