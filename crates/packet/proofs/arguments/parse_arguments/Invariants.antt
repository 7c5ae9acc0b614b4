use Rattle.std.proofs.Common.{◌≡◌, ℕ, ◌<◌, [], length, get_or, map, Some}
use Rattle.std.specs.Prelude.{string_bytes}
use Rattle.packet.specs.Arguments.{named}
use Rattle.packet.proofs.AssignmentLaws.{assignment_at}
use Rattle.packet.proofs.arguments.parse_arguments.Given as goal

abbrev pub invariant-loop-number : goal.invariant-loop-number
invariant-loop-number g l = record {
  count : length l.assignments.items ≡ l.number;
  each : (k : ℕ) → k < l.number → assignment_at (map string_bytes l.words) k ≡ Some (get_or (map named l.assignments.items) k (record { name = []; value = 0 }));
}
