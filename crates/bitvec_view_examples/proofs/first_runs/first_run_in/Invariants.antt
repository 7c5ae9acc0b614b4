use Rattle.std.proofs.Common.{◌-◌, ◌≤◌, false}
use Rattle.bitvec.specs.Arrays.{lsb0_bits}
use Rattle.bitvec.specs.Fits.{HasNoRunBefore}
use Rattle.bitvec_view_examples.proofs.first_runs.first_run_in.Given as goal

abbrev pub invariant-loop-start : goal.invariant-loop-start
invariant-loop-start l = record {
  inside : l.start ≤ 256;
  before : HasNoRunBefore false (lsb0_bits 64 l.map) l.size l.start;
}

abbrev pub decreases-loop-start : goal.decreases-loop-start
decreases-loop-start l = 256 - l.start
