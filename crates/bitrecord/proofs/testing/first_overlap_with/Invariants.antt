use Rattle.std.proofs.Common.{◌+◌}
use Rattle.bitrecord.specs.Layouts.{IsApartFrom}
use Rattle.bitrecord.proofs.testing.first_overlap_with.Given as goal

abbrev pub invariant-loop-other : goal.invariant-loop-other
invariant-loop-other l = IsApartFrom l.fields l.number (l.number + 1) l.other
