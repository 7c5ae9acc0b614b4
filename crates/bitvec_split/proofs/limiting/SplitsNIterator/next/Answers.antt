use Rattle.std.proofs.Common.{arith}
use Rattle.std.proofs.lemmas.Grind.{common_steps}
use Rattle.bitvec_split.proofs.limiting.SplitsNIterator.next.Goals as goal

pub returns-in_err-piece-clause-steps : goal.returns-in_err-piece-clause-steps
returns-in_err-piece-clause-steps g c = grind (arith, common_steps)

pub returns-clause-steps : goal.returns-clause-steps
returns-clause-steps g c = grind (arith, common_steps)
