use Rattle.bitvec_closures.proofs.NumberedLaws.{PiecesSoFar}
use Rattle.bitvec_closures.specs.Pieces.{way_of}
use Rattle.bitvec_closures.proofs.edit_parts.EditParts.for_each_piece_mut.Given as goal

abbrev pub invariant-loop-number : goal.invariant-loop-number
invariant-loop-number g l =
    PiecesSoFar g.Self.Shows.shows g.Self.EditParts.named (goal.F-step g) l.fn.self (way_of (g.C.Cutting.pieces l.fn.cutting) (g.C.Cutting.place l.fn.cutting)) l.fn.edit l.number l.self l.edit
