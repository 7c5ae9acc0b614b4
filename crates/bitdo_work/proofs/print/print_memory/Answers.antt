use Rattle.std.proofs.Common.{arith}
use Rattle.std.proofs.lemmas.Grind.{common_steps}
use Rattle.bitdo_work.proofs.print.print_memory.Goals as goal

pub returns-clause-text : goal.returns-clause-text
returns-clause-text g c = grind (arith, common_steps)

pub returns-clause-in_range : goal.returns-clause-in_range
returns-clause-in_range g c = grind (arith, common_steps)
