use Rattle.std.proofs.Common.{Bool, List, ap}
use Rattle.bitvec_base.specs.Lists.{first_place}
use Rattle.bitvec_cells.proofs.PartLemmas.{part-read}
use Rattle.bitvec_cells.proofs.find.first_in_part.Goals as goal

pub returns-clause-value : goal.returns-clause-value
returns-clause-value g c =
    rw (c.first_in_element.ensures, c.load-element.ensures.value)
    (ap (λ (part : List Bool). first_place c.args.want part) (part-read _ c.requires))
