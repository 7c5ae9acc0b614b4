use Rattle.std.proofs.lemmas.List.{map-set}
use Rattle.bitvec_cells.proofs.exclusive.ExclusiveCells.store.Goals as goal

pub returns-clause-numbers : goal.returns-clause-numbers
returns-clause-numbers g c = map-set _ _ _ _
