use Rattle.bitdo_work.proofs.DigitLaws.{HasDigits}
use Rattle.bitdo_work.proofs.print.print_digits.Given as goal

abbrev pub invariant-loop-place : goal.invariant-loop-place
invariant-loop-place g l = HasDigits (g.W.Write.contents l.initial.output) (g.W.Write.contents l.output) l.fn.count l.place l.number
