use Rattle.bitvec_split.proofs.RowLaws.{progress}
use Rattle.bitvec_split.proofs.splitting.SplitsIterator.next.Goals as goal

pub returns-clause-steps : goal.returns-clause-steps
returns-clause-steps g c = rw c.REVERSED.ensures at c.next_from.ensures.piece

pub returns-clause-goes : goal.returns-clause-goes
returns-clause-goes g c = progress _ c.next_from.ensures.callable c.next_from.ensures.fewer
