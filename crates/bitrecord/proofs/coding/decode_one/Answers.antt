use Rattle.bitrecord.proofs.Numbers.{view-fits}
use Rattle.bitrecord.proofs.coding.decode_one.Goals as goal

pub returns-clause-fits : goal.returns-clause-fits
returns-clause-fits g c =
    rw (c.take.ensures, c.field.ensures) (view-fits g.O.WordOrder.HIGH c.args.view c.args.endian _ c.args.number _ c.args.layout.now.layout c.requires.bits c.requires.bound)
