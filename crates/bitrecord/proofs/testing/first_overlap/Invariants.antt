use Rattle.bitrecord.specs.Layouts.{AreApartBefore}
use Rattle.bitrecord.proofs.testing.first_overlap.Given as goal

abbrev pub invariant-loop-number : goal.invariant-loop-number
invariant-loop-number l = AreApartBefore l.fields l.number
