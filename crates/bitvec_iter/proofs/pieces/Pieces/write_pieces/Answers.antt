use Rattle.std.proofs.Common.{◌≡◌, ◌∙◌, ◌+◌, ap, arith, refl, slice_index_or, sym}
use Rattle.std.specs.List.{join_by}
use Rattle.std.proofs.lemmas.List.{take_all}
use Rattle.bitvec_cutting.specs.WalkLaws.{walk_at}
use Rattle.bitvec_domain.specs.ListingLaws.{join_by-more}
use Rattle.bitvec_domain.specs.Listing.{bits_text, comma}
use Rattle.bitvec_slice.specs.Views.{seen}
use Rattle.bitvec_iter.specs.Left.{piece_at, pieces_left}
use Rattle.bitvec_iter.proofs.LeftLaws.{left, left_length}
use Rattle.bitvec_iter.proofs.Writing.{written-as, written-then}
use Rattle.bitvec_iter.proofs.pieces.Pieces.write_pieces.Goals as goal

pub loop-index-preserved : goal.loop-index-preserved
loop-index-preserved g c = λ plain.
    let it = c.args.self.now in
    let index = c.loop-index.index in
    let long = left_length it in
    let here = piece_at it (it.numbers.start + index) in
    let is : slice_index_or (pieces_left it) index here ≡ here =
    ap (λ l. slice_index_or l index here) (left it) ∙ walk_at (piece_at it) it.numbers.start it.numbers.end index (it.numbers.start + index) here (omega arith) (omega arith) in
    let so_far = c.loop-index.invariant plain in
    let lead = written-as c.separator_before.ensures (c.in_ok-write_str.ensures.writes so_far.plain refl) in
    let wrote = c.in_ok-fmt.ensures.writes lead.plain refl in
    let text : bits_text (seen c.piece.result).bits ≡ bits_text (slice_index_or (pieces_left it) index here).bits = ap (λ p. bits_text p.bits) (c.piece.ensures ∙ sym is) in
    written-as (join_by-more (λ piece. bits_text piece.bits) (pieces_left it) index here (omega arith))
    (written-then so_far (written-then lead (written-as text wrote)))

pub returns : goal.returns
returns g c = λ plain _.
    let it = c.args.self.now in
    let long = left_length it in
    written-as (ap (join_by (λ piece. bits_text piece.bits) comma) (take_all c.loop-index.index (pieces_left it) (omega arith))) (c.loop-index.invariant plain)
