use Rattle.std.proofs.Common.{sym}
use Rattle.bitvec_slice.specs.PartLaws.{part-few, part-holds, part-left, part-shown}
use Rattle.bitvec_iter.specs.PiecesLending.{with_elements}
use Rattle.bitvec_iter.proofs.lent_pieces.PiecesMut.part_mut.Goals as goal

pub from_parts-requires-clause-inside : goal.from_parts-requires-clause-inside
from_parts-requires-clause-inside g c = part-holds _ c.touched_part-part.ensures.part c.elements_part_mut-elements.ensures.elements

pub from_parts-requires-clause-fits : goal.from_parts-requires-clause-fits
from_parts-requires-clause-fits g c = part-few _ c.touched_part-part.ensures.part c.elements_part_mut-elements.ensures.elements c.args.self.now.bounded

pub returns : goal.returns
returns g c =
    let is = c.touched_part-part.ensures.part in
    ((sym c.from_parts.ensures.name, part-left _ is (with_elements c.args.self.now)), record { writes_back = tt; part = part-shown _ is c.elements_part_mut-elements.ensures.elements _ _ c.from_parts.ensures.view })
