use Rattle.std.proofs.Common.{arith}
use Rattle.bitvec_cells.proofs.cells.bits_before.Goals as goal

pub overflow_mul-result : goal.overflow_mul-result
overflow_mul-result g c = record { fits = grind (arith, g.met.T.BitStore.width_law) }

pub returns-clause-bound : goal.returns-clause-bound
returns-clause-bound g c = grind (arith, g.met.T.BitStore.width_law)
