use Rattle.bitvec_base.specs.FoundLaws.{first-trailing, first-trailing_none}
use Rattle.bitvec_base.proofs.ones.lowest.Goals as goal

pub returns-then-zeros-BITS : goal.returns-then-zeros-BITS
returns-then-zeros-BITS g c = first-trailing_none g.R.BitStore.BITS _ _ g.met.R.BitStore.width_law c.in_range.ensures c.trailing_zeros-zeros.ensures (rw c.BITS.ensures at c.if-zeros-BITS.true)

pub returns : goal.returns
returns g c = first-trailing g.R.BitStore.BITS _ _ g.met.R.BitStore.width_law c.in_range.ensures c.trailing_zeros-zeros.ensures (rw c.BITS.ensures at c.if-zeros-BITS.false)
