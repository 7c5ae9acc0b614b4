use Rattle.std.specs.Prelude.{◌≡◌, ℕ, ◌+◌, ◌-◌, min, nat_lt}
use Rattle.std.proofs.Common.{◌∙◌, ap, rules, subst, sym}
use Rattle.bitvec_slice.specs.MayLend.{is_lent, piece_of}
use Rattle.bitvec_slice.specs.Views.{seen_mut}
use Rattle.bitvec_iter.specs.LentPieces.{walk_of}
use Rattle.bitvec_iter.specs.LentWalk.{IsPieceOfWalk}
use Rattle.bitvec_iter.specs.PiecesLending.{ends_next}
use Rattle.bitvec_iter.proofs.PassedLaws.{left-behind, passed-all}
use Rattle.bitvec_iter.proofs.lent_pieces.PiecesMut.nth_lent.Goals as goal

pub returns : goal.returns
returns g c =
    let p = c.args.self.now in
    let left : is_lent c.next_lent.result ≡ nat_lt c.args.skipped (p.back - p.front) =
    c.next_lent.ensures.lent ∙ ap (λ q. nat_lt (walk_of q).front (walk_of q).back) c.pass.ensures.whole ∙ left-behind p.front p.back c.args.skipped in (
      (search rules, λ w. ap (λ q. ends_next g.C.Cutting.place q w) c.pass.ensures.whole),
      record {
        writes_back = tt;
        lent = left;
        piece = λ is.
            let here : p.front + min c.args.skipped (p.back - p.front) ≡ p.front + c.args.skipped = ap (λ (n : ℕ). p.front + n) (passed-all c.args.skipped (p.back - p.front) (sym left ∙ is)) in
            subst (λ (n : ℕ). IsPieceOfWalk g.T.BitStore.BITS g.C.Cutting.place (walk_of p) (n) (seen_mut (piece_of c.next_lent.result))) here
            (subst (λ q. IsPieceOfWalk g.T.BitStore.BITS g.C.Cutting.place (walk_of q) ((walk_of q).front) (seen_mut (piece_of c.next_lent.result))) c.pass.ensures.whole (c.next_lent.ensures.piece is));
      },
    )
