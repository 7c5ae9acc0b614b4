use Rattle.bitvec_places.proofs.TurnsLaws.{turn-back}
use Rattle.bitvec_places.proofs.turns.take_from.Goals as goal

pub returns-in-Back-clause-inside : goal.returns-in-Back-clause-inside
returns-in-Back-clause-inside g c = c.take_last.ensures.rest.inside

pub returns-in-Back-clause-gives : goal.returns-in-Back-clause-gives
returns-in-Back-clause-gives g c = rw c.in-Back.is (turn-back _ _ _ c.take_last.ensures.gives)
