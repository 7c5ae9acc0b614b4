use Rattle.std.proofs.Common.{ap, sym, ◌∙◌}
use Rattle.bitvec_segments.specs.Segments.{segment_number}
use Rattle.bitvec_words.specs.FieldLaws.{list-part}
use Rattle.bitvec_segments.proofs.part.part_number.Goals as goal

pub returns-clause-value : goal.returns-clause-value
returns-clause-value g c =
    rw c.load-element.ensures.value at c.number_between.ensures
    ∙ ap (segment_number g.O.WordOrder.HIGH) (sym (list-part _ c.requires.part))
