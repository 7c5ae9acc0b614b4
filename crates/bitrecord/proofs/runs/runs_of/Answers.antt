use Rattle.std.proofs.Common.{arith}
use Rattle.std.proofs.lemmas.Grind.{common_steps, elements}
use Rattle.bitrecord.proofs.runs.runs_of.Goals as goal

pub overflow_cast-runs : goal.overflow_cast-runs
overflow_cast-runs c = grind (arith, common_steps)

pub loop-number-preserved : goal.loop-number-preserved
loop-number-preserved c = grind (arith, elements)
