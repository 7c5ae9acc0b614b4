use Rattle.std.proofs.Common.{ap, sym, ◌∙◌, not}
use Rattle.std.proofs.Math.Bool.{not-not}
use Rattle.bitvec_base.specs.PlacesLaws.{list_all-first_place}
use Rattle.bitvec_engine.proofs.searching.all.Goals as goal

pub returns-clause-value : goal.returns-clause-value
returns-clause-value g c = sym (not-not c.is_none.result) ∙ ap not (sym c.is_none.ensures) ∙ rw c.find_first.ensures.value (list_all-first_place _)
