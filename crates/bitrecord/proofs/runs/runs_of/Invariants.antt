use Rattle.std.proofs.Common.{◌≡◌, ℕ, ◌+◌, ◌<◌, length, slice_index}
use Rattle.bitrecord.specs.Runs.{IsRun}
use Rattle.bitrecord.proofs.runs.runs_of.Given as goal

abbrev pub invariant-loop-number : goal.invariant-loop-number
invariant-loop-number l = record { kept : length l.runs ≡ 64; runs : (n : ℕ) → n < l.number → IsRun l.fields n (n + slice_index l.runs n) }
