use Rattle.std.proofs.Common.{arith}
use Rattle.bitvec_base.specs.LeadingLaws.{last_run}
use Rattle.bitvec_query.proofs.runs.behind_last.Goals as goal

pub overflow_sub-result : goal.overflow_sub-result
overflow_sub-result g c = grind (arith, last_run)

pub overflow_sub-result-in-Some : goal.overflow_sub-result-in-Some
overflow_sub-result-in-Some g c = grind (arith, last_run)

pub returns-in-Some : goal.returns-in-Some
returns-in-Some g c = grind (arith, last_run)

pub returns-in-None : goal.returns-in-None
returns-in-None g c = grind (arith, last_run)
