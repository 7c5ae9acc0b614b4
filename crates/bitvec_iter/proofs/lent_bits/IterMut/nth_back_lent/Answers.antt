use Rattle.std.specs.Prelude.{◌≡◌, ℕ, ◌+◌, ◌-◌, min, nat_lt}
use Rattle.std.proofs.Common.{◌∙◌, ap, arith, rules, subst, sym}
use Rattle.bitvec_slice.specs.MayLend.{is_lent, piece_of}
use Rattle.bitvec_slice.specs.Seen.{IsRangeOf}
use Rattle.bitvec_slice.specs.Views.{seen_mut}
use Rattle.bitvec_iter.specs.LentBits.{bit_walk_of}
use Rattle.bitvec_iter.specs.BitsLending.{ends_next_back}
use Rattle.bitvec_iter.proofs.PassedLaws.{left-before, passed-all}
use Rattle.bitvec_iter.proofs.lent_bits.IterMut.nth_back_lent.Goals as goal

pub returns : goal.returns
returns g c =
    let p = c.args.self.now in
    let left : is_lent c.next_back_lent.result ≡ nat_lt c.args.skipped (p.back - p.front) =
    c.next_back_lent.ensures.lent ∙ ap (λ q. nat_lt (bit_walk_of q).front (bit_walk_of q).back) c.pass_back.ensures.whole ∙ left-before p.front p.back c.args.skipped in (
      (search rules, λ w. ap (λ q. ends_next_back q w) c.pass_back.ensures.whole),
      record {
        writes_back = tt;
        lent = left;
        bit = λ is.
            let here : p.back - min c.args.skipped (p.back - p.front) - 1 ≡ p.back - 1 - c.args.skipped = omega (arith, passed-all c.args.skipped (p.back - p.front) (sym left ∙ is)) in
            subst (λ (n : ℕ). IsRangeOf g.T.BitStore.BITS (bit_walk_of p).view (n) (n + 1) (seen_mut (piece_of c.next_back_lent.result))) here
            (subst (λ q. IsRangeOf g.T.BitStore.BITS (bit_walk_of q).view ((bit_walk_of q).back - 1) ((bit_walk_of q).back - 1 + 1) (seen_mut (piece_of c.next_back_lent.result))) c.pass_back.ensures.whole (c.next_back_lent.ensures.bit is));
      },
    )
