use Rattle.std.proofs.Common.{arith}
use Rattle.bitvec.specs.Laws.{found}
use Rattle.slots.proofs.places.first_fit.Goals as goal

pub overflow_add-start-in-Some-2 : goal.overflow_add-start-in-Some-2
overflow_add-start-in-Some-2 g c = grind (arith, found)
