use Rattle.std.proofs.Common.{arith}
use Rattle.bitvec_elements.proofs.Directions.{by_direction}
use Rattle.bitvec_elements.proofs.swapping.swap_with_in.Goals as goal

pub returns-in-Up : goal.returns-in-Up
returns-in-Up g c = record { writes = grind (arith, by_direction); right_writes = grind (arith, by_direction) }

pub returns-in-Down : goal.returns-in-Down
returns-in-Down g c = record { writes = grind (arith, by_direction); right_writes = grind (arith, by_direction) }
