use Rattle.std.proofs.Common.{arith}
use Rattle.bitvec_elements.proofs.recutting.room_of.Goals as goal

pub overflow_mul-result : goal.overflow_mul-result
overflow_mul-result g c = record { fits = grind (arith, g.met.T.BitStore.width_law) }

pub returns-clause-some : goal.returns-clause-some
returns-clause-some g c = grind (arith, g.met.T.BitStore.width_law)

pub returns-clause-few : goal.returns-clause-few
returns-clause-few g c = grind (arith, g.met.T.BitStore.width_law)
