use Rattle.std.proofs.Common.{arith}
use Rattle.std.proofs.lemmas.Grind.{common_steps}
use Rattle.bitvec_split.proofs.texts.write_limited.Goals as goal

pub returns : goal.returns
returns g c = grind (arith, common_steps)
