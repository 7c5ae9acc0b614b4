use Rattle.std.proofs.Common.{arith, refl}
use Rattle.bitrecord.proofs.Exponents.{wide-enough}
use Rattle.bitrecord.proofs.fitting.fits.Goals as goal

pub returns-then-len-ge128 : goal.returns-then-len-ge128
returns-then-len-ge128 c = (λ _. wide-enough c.args.value c.args.len (omega arith) c.if-len-ge128.true, λ _. refl)
