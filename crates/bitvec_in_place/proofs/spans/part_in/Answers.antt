use Rattle.std.proofs.Common.{◌∙◌, ap, sym}
use Rattle.bitvec_slice.specs.Seen.{Seen}
use Rattle.bitvec_in_place.proofs.Windows.{bits-is}
use Rattle.bitvec_in_place.proofs.spans.part_in.Goals as goal

pub returns-clause-bits : goal.returns-clause-bits
returns-clause-bits g c = ap (λ (view : Seen g.row.T.Denot). view.bits) c.from_parts.ensures ∙ sym (bits-is _ _ _ c.requires.range.order)
