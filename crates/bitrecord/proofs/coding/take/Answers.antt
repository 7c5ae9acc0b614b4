use Rattle.std.proofs.Common.{ap, nat_abs, ◌∙◌}
use Rattle.bitrecord.proofs.Puts.{take-be, take-le}
use Rattle.bitrecord.proofs.coding.take.Goals as goal

pub returns-in-Little : goal.returns-in-Little
returns-in-Little g c = rw c.in-Little.is (ap nat_abs c.load_le.ensures ∙ take-le g.O.WordOrder.HIGH g.T.BitStore.BITS _ _ _ _ c.args.field c.into_part-part.ensures.bits c.into_part-part.ensures.start)

pub returns-in-Big : goal.returns-in-Big
returns-in-Big g c = rw c.in-Big.is (ap nat_abs c.load_be.ensures ∙ take-be g.O.WordOrder.HIGH g.T.BitStore.BITS _ _ _ _ c.args.field c.into_part-part.ensures.bits c.into_part-part.ensures.start)
