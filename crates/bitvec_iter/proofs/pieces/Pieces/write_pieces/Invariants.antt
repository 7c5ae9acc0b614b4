use Rattle.std.proofs.Common.{take}
use Rattle.std.specs.Fmt.{HasWritten, IsPlainFormatter}
use Rattle.std.specs.List.{join_by}
use Rattle.bitvec_domain.specs.Listing.{bits_text, comma}
use Rattle.bitvec_iter.specs.Left.{pieces_left}
use Rattle.bitvec_iter.proofs.pieces.Pieces.write_pieces.Given as goal

abbrev pub invariant-loop-index : goal.invariant-loop-index
invariant-loop-index g l =
    IsPlainFormatter l.initial.f
    → HasWritten g.W.Write.write_str_gives l.initial.f (join_by (λ piece. bits_text piece.bits) comma (take l.index (pieces_left l.self))) l.f
