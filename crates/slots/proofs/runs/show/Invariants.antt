use Rattle.std.proofs.Common.{◌-◌, ◌≤◌, length}
use Rattle.bitvec.specs.Views.{seen}
use Rattle.slots.proofs.RunLaws.{HasShown}
use Rattle.slots.proofs.runs.show.Given as goal

-- how far it has come, and that what lies before was printed
abbrev pub invariant-loop-run : goal.invariant-loop-run
invariant-loop-run g l = record {
  inside : l.from ≤ length (seen l.places).bits;
  shown : HasShown (seen l.places).bits l.from (g.W.Write.contents l.initial.output) (g.W.Write.contents l.output);
}

abbrev pub decreases-loop-run : goal.decreases-loop-run
decreases-loop-run g l = length (seen l.places).bits - l.from
