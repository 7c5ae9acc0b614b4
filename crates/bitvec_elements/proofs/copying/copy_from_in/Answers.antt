use Rattle.std.proofs.Common.{arith}
use Rattle.bitvec_elements.proofs.Directions.{by_direction}
use Rattle.bitvec_elements.proofs.copying.copy_from_in.Goals as goal

pub returns-in-Up-Up : goal.returns-in-Up-Up
returns-in-Up-Up g c = grind (arith, by_direction)

pub returns-in-Down-Down : goal.returns-in-Down-Down
returns-in-Down-Down g c = grind (arith, by_direction)

pub returns-in-Up : goal.returns-in-Up
returns-in-Up g c = grind (arith, by_direction)

pub returns-in-Down : goal.returns-in-Down
returns-in-Down g c = grind (arith, by_direction)
