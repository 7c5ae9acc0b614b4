use Rattle.std.proofs.Common.{ℕ, ◌<◌, slice_index}
use Rattle.bitrecord.specs.Layouts.{field_at}
use Rattle.bitrecord.specs.Records.{Fits}
use Rattle.bitrecord.proofs.fitting.first_too_large.Given as goal

abbrev pub invariant-loop-number : goal.invariant-loop-number
invariant-loop-number g l = (k : ℕ) → k < l.number → Fits (field_at l.layout.fields.items k) (slice_index l.values k)
