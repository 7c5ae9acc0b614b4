use Rattle.bitrecord.specs.Layouts.{EachBefore, HasWidth}
use Rattle.bitrecord.proofs.testing.first_without_width.Given as goal

abbrev pub invariant-loop-number : goal.invariant-loop-number
invariant-loop-number l = EachBefore HasWidth l.fields l.number
