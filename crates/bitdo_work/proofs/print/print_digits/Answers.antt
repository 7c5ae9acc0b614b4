use Rattle.std.proofs.Common.{arith}
use Rattle.std.proofs.lemmas.Grind.{common_steps}
use Rattle.bitdo_work.proofs.DigitLaws.{HasDigits-none, HasDigits-next, Appends-digits}
use Rattle.bitdo_work.proofs.print.print_digits.Goals as goal

pub loop-place-init : goal.loop-place-init
loop-place-init g c = HasDigits-none _ _ _

pub loop-place-preserved : goal.loop-place-preserved
loop-place-preserved g c = HasDigits-next c.loop-place.place (omega arith) c.loop-place.invariant (grind (arith, common_steps))

pub returns : goal.returns
returns g c = Appends-digits c.loop-place.place (omega arith) c.loop-place.invariant
