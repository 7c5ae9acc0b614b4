use Rattle.std.proofs.Common.{◌-◌, ◌≤◌, false}
use Rattle.bitvec.specs.Fits.{HasNoRunBefore}
use Rattle.bitvec.specs.Views.{seen}
use Rattle.slots.proofs.places.first_fit.Given as goal

abbrev pub invariant-loop-start : goal.invariant-loop-start
invariant-loop-start g l = record {
  inside : l.start ≤ l.len;
  before : HasNoRunBefore false (seen l.places).bits l.count l.start;
}

abbrev pub decreases-loop-start : goal.decreases-loop-start
decreases-loop-start g l = l.len - l.start
