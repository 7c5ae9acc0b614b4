use Rattle.bitvec_base.specs.FoundLaws.{last-leading, last-leading_none}
use Rattle.bitvec_base.proofs.ones.highest.Goals as goal

pub returns-then-zeros-BITS : goal.returns-then-zeros-BITS
returns-then-zeros-BITS g c = last-leading_none g.R.BitStore.BITS _ _ c.in_range.ensures c.leading_zeros-zeros.ensures (rw c.BITS.ensures at c.if-zeros-BITS.true)

pub returns : goal.returns
returns g c = rw c.BITS-2.ensures (last-leading g.R.BitStore.BITS _ _ c.in_range.ensures c.leading_zeros-zeros.ensures (rw c.BITS.ensures at c.if-zeros-BITS.false))
