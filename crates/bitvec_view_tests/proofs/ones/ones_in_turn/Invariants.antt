use Rattle.std.proofs.Common.{◌≡◌}
use Rattle.bitvec_view_tests.proofs.ones.ones_in_turn.Given as goal

abbrev pub invariant-loop-index : goal.invariant-loop-index
invariant-loop-index g l = l.list.items ≡ l.yielded
