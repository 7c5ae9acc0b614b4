use Rattle.std.proofs.Common.{arith}
use Rattle.std.proofs.lemmas.Grind.{common_steps}
use Rattle.bitvec_lent_split.proofs.split_state.SplitState.step.Goals as goal

pub returns-in_err-range-clause-piece : goal.returns-in_err-range-clause-piece
returns-in_err-range-clause-piece g c = grind (arith, common_steps)

pub returns-clause-piece : goal.returns-clause-piece
returns-clause-piece g c = grind (arith, common_steps)
