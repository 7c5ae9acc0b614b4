use Rattle.std.specs.Prelude.{◌≡◌, ℕ, ◌-◌, min, nat_lt}
use Rattle.std.proofs.Common.{◌∙◌, ap, arith, rules, subst, sym}
use Rattle.bitvec_slice.specs.MayLend.{is_lent, piece_of}
use Rattle.bitvec_slice.specs.Views.{seen_mut}
use Rattle.bitvec_iter.specs.LentPieces.{walk_of}
use Rattle.bitvec_iter.specs.LentWalk.{IsPieceOfWalk}
use Rattle.bitvec_iter.specs.PiecesLending.{ends_next_back}
use Rattle.bitvec_iter.proofs.PassedLaws.{left-before, passed-all}
use Rattle.bitvec_iter.proofs.lent_pieces.PiecesMut.nth_back_lent.Goals as goal

pub returns : goal.returns
returns g c =
    let p = c.args.self.now in
    let left : is_lent c.next_back_lent.result ≡ nat_lt c.args.skipped (p.back - p.front) =
    c.next_back_lent.ensures.lent ∙ ap (λ q. nat_lt (walk_of q).front (walk_of q).back) c.pass_back.ensures.whole ∙ left-before p.front p.back c.args.skipped in (
      (search rules, λ w. ap (λ q. ends_next_back g.C.Cutting.place q w) c.pass_back.ensures.whole),
      record {
        writes_back = tt;
        lent = left;
        piece = λ is.
            let here : p.back - min c.args.skipped (p.back - p.front) - 1 ≡ p.back - 1 - c.args.skipped = omega (arith, passed-all c.args.skipped (p.back - p.front) (sym left ∙ is)) in
            subst (λ (n : ℕ). IsPieceOfWalk g.T.BitStore.BITS g.C.Cutting.place (walk_of p) (n) (seen_mut (piece_of c.next_back_lent.result))) here
            (subst (λ q. IsPieceOfWalk g.T.BitStore.BITS g.C.Cutting.place (walk_of q) ((walk_of q).back - 1) (seen_mut (piece_of c.next_back_lent.result))) c.pass_back.ensures.whole (c.next_back_lent.ensures.piece is));
      },
    )
