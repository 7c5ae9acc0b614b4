use Rattle.bitrecord.proofs.Exponents.{power-at}
use Rattle.bitrecord.proofs.powers.power.Goals as goal

pub returns : goal.returns
returns c = power-at 64 c.args.exponent c.requires
