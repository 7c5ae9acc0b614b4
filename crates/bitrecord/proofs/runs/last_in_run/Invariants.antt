use Rattle.std.proofs.Common.{◌-◌, ◌<◌}
use Rattle.bitrecord.specs.Runs.{IsRun}
use Rattle.bitrecord.proofs.runs.last_in_run.Given as goal

abbrev pub invariant-loop-number : goal.invariant-loop-number
invariant-loop-number l = record { begun : l.first < l.number; run : IsRun l.fields l.first (l.number - 1) }
