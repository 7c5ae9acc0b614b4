use Rattle.std.proofs.Common.{◌≡◌, ◌∙◌, ◌+◌, ◌-◌, ℕ, List, Bool, ap, arith, length, refl, slice_index_or, sym}
use Rattle.std.specs.List.{join_by}
use Rattle.std.proofs.lemmas.List.{take_all}
use Rattle.bitvec_cutting.specs.Cutting.{cut}
use Rattle.bitvec_cutting.specs.WalkLaws.{walk_at, walk_length}
use Rattle.bitvec_domain.specs.ListingLaws.{join_by-more}
use Rattle.bitvec_domain.specs.Listing.{bits_text, comma}
use Rattle.bitvec_slice.specs.Views.{seen}
use Rattle.bitvec_iter.specs.LentPieces.{walk_of}
use Rattle.bitvec_iter.specs.LentWalk.{lists_left}
use Rattle.bitvec_iter.proofs.PartLaws.{shown-bits}
use Rattle.bitvec_iter.proofs.Writing.{written-as, written-then}
use Rattle.bitvec_iter.proofs.lent_pieces.PiecesMut.write_pieces.Goals as goal

pub loop-index-preserved : goal.loop-index-preserved
loop-index-preserved g c = λ plain.
    let w = walk_of c.args.self.now in
    let index = c.loop-index.index in
    let piece : ℕ → List Bool = λ number. cut w.view.bits (g.C.Cutting.place w.cutting w.view.window.len number) in
    let all = lists_left g.C.Cutting.place w in
    let long : length all ≡ w.back - w.front = walk_length piece w.front w.back in
    let here = piece (w.front + index) in
    let is : slice_index_or all index here ≡ here = walk_at piece w.front w.back index (w.front + index) here (omega arith) (omega arith) in
    let so_far = c.loop-index.invariant plain in
    let lead = written-as c.separator_before.ensures (c.in_ok-write_str.ensures.writes so_far.plain refl) in
    let wrote = c.in_ok-fmt.ensures.writes lead.plain refl in
    let bits = shown-bits _ _ _ _ _ c.into_part.ensures.bits c.from_parts-view.ensures c.piece-places.ensures in
    let text : bits_text (seen c.into_part.result).bits ≡ bits_text (slice_index_or all index here) = ap bits_text (bits ∙ sym is) in
    written-as (join_by-more bits_text all index here (omega arith))
    (written-then so_far (written-then lead (written-as text wrote)))

pub returns : goal.returns
returns g c = λ plain _.
    let w = walk_of c.args.self.now in
    let piece : ℕ → List Bool = λ number. cut w.view.bits (g.C.Cutting.place w.cutting w.view.window.len number) in
    let all = lists_left g.C.Cutting.place w in
    let long : length all ≡ w.back - w.front = walk_length piece w.front w.back in
    written-as (ap (join_by bits_text comma) (take_all c.loop-index.index all (omega arith))) (c.loop-index.invariant plain)
