use Rattle.bitvec_base.specs.PlacesLaws.{list_any-first_place}
use Rattle.bitvec_engine.proofs.searching.any.Goals as goal

pub returns-clause-value : goal.returns-clause-value
returns-clause-value g c = rw (c.is_some.ensures, c.find_first.ensures.value) (list_any-first_place _)
