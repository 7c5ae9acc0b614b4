use Rattle.std.proofs.Common.{◌≡◌, ℕ, ◌<◌, length, get_or, map}
use Rattle.packet.specs.Arguments.{named}
use Rattle.packet.specs.Packets.{places_of}
use Rattle.packet.specs.Resolved.{IsChange, asked_at}
use Rattle.packet.proofs.resolve.resolve.Given as goal

abbrev pub invariant-loop-index : goal.invariant-loop-index
invariant-loop-index g l = record {
  count : length l.changes.items ≡ l.index;
  each : (k : ℕ) → k < l.index → IsChange (places_of l.fields) (asked_at (map named l.assignments) k) (get_or l.changes.items k (record { number = 0; value = 0 }));
}
