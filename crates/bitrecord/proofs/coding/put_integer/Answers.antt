use Rattle.bitvec.specs.Integers.{remainder_of}
use Rattle.bitvec.specs.WidthLaws.{width_some}
use Rattle.bitrecord.proofs.Puts.{put-be, put-le}
use Rattle.bitrecord.proofs.coding.put_integer.Goals as goal

pub returns-in-Little : goal.returns-in-Little
returns-in-Little g c = rw c.in-Little.is (put-le g.O.WordOrder.HIGH _ _ c.args.field (remainder_of g.I.Integral.BITS (g.I.Integral.value c.args.value)) c.requires.inside c.requires.fits (width_some _ g.met.T.BitStore.width_law) c.put_le.ensures)

pub returns-in-Big : goal.returns-in-Big
returns-in-Big g c = rw c.in-Big.is (put-be g.O.WordOrder.HIGH _ _ c.args.field (remainder_of g.I.Integral.BITS (g.I.Integral.value c.args.value)) c.requires.inside c.requires.fits (width_some _ g.met.T.BitStore.width_law) c.put_be.ensures)
