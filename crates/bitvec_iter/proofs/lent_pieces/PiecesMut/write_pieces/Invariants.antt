use Rattle.std.proofs.Common.{take}
use Rattle.std.specs.Fmt.{HasWritten, IsPlainFormatter}
use Rattle.std.specs.List.{join_by}
use Rattle.bitvec_domain.specs.Listing.{bits_text, comma}
use Rattle.bitvec_iter.specs.LentPieces.{walk_of}
use Rattle.bitvec_iter.specs.LentWalk.{lists_left}
use Rattle.bitvec_iter.proofs.lent_pieces.PiecesMut.write_pieces.Given as goal

abbrev pub invariant-loop-index : goal.invariant-loop-index
invariant-loop-index g l =
    IsPlainFormatter l.initial.f
    → HasWritten g.W.Write.write_str_gives l.initial.f (join_by bits_text comma (take l.index (lists_left g.C.Cutting.place (walk_of l.self)))) l.f
