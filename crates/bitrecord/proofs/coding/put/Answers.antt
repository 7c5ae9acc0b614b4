use Rattle.bitrecord.proofs.Puts.{fits-kept}
use Rattle.bitrecord.proofs.coding.put.Goals as goal

pub put_integer-requires-clause-fits : goal.put_integer-requires-clause-fits
put_integer-requires-clause-fits g c = rw (fits-kept 128 c.args.field.len c.args.value c.requires.width.bound c.requires.fits) c.requires.fits

pub returns : goal.returns
returns g c = rw (fits-kept 128 c.args.field.len c.args.value c.requires.width.bound c.requires.fits) at c.put_integer.ensures
