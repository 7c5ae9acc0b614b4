use Rattle.std.proofs.Common.{Bool, List, ap}
use Rattle.bitvec_base.specs.Lists.{last_place}
use Rattle.bitvec_cells.proofs.PartLemmas.{part-read}
use Rattle.bitvec_cells.proofs.find.last_in_part.Goals as goal

pub returns-clause-value : goal.returns-clause-value
returns-clause-value g c =
    rw (c.last_in_element.ensures, c.load-element.ensures.value)
    (ap (λ (part : List Bool). last_place c.args.want part) (part-read _ c.requires))
