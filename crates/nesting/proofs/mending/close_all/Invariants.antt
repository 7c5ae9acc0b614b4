use Rattle.std.proofs.Common.{◌≡◌, ◌++◌, length, map}
use Rattle.nesting.specs.Brackets.{closer}
use Rattle.nesting.proofs.mending.close_all.Given as goal

abbrev pub invariant-loop-block : goal.invariant-loop-block
invariant-loop-block l = l.text.items ++ map closer l.marks ≡ l.initial.text.items ++ map closer l.initial.marks

abbrev pub decreases-loop-block : goal.decreases-loop-block
decreases-loop-block l = length l.marks
