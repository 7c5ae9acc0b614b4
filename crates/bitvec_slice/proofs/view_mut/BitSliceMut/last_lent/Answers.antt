use Rattle.std.proofs.Common.{◌≡◌, ℕ, ◌+◌, ◌-◌, ◌<◌, nat_lt, true, zero, suc, refl, sym, ◌∙◌, ap, arith, subst}
use Rattle.std.specs.Prelude.{if◌then◌else◌}
use Rattle.std.proofs.lemmas.Bool.Decides.{nat_tests}
use Rattle.bitvec_domain.specs.Refill.{with_range}
use Rattle.bitvec_slice.specs.Lending.{with_elements}
use Rattle.bitvec_slice.specs.MayLend.{piece_of}
use Rattle.bitvec_slice.specs.Seen.{IsRangeOf}
use Rattle.bitvec_slice.specs.Touched.{end_touched, first_touched}
use Rattle.bitvec_slice.specs.Views.{seen_mut}
use Rattle.bitvec_slice.proofs.view_mut.BitSliceMut.last_lent.Goals as goal

lies : (index len : ℕ) → index < len → nat_lt index len ≡ true
lies index len below = grind (arith, nat_tests)

last_lies : (len : ℕ) → nat_lt (len - 1) len ≡ nat_lt 0 len
last_lies zero = refl
last_lies (suc n) = lies (suc n - 1) (suc n) (omega arith) ∙ sym (lies 0 (suc n) (omega arith))

pub returns : goal.returns
returns g c =
    let v = c.args.self.now in
    let last : c.saturating_sub-last.result ≡ v.len - 1 = c.saturating_sub-last.ensures ∙ ap (λ (n : ℕ). n - 1) c.len.ensures.window in (
      (refl, λ w. ap (λ (n : ℕ). with_elements v (with_range v.elements.now (if nat_lt n v.len then first_touched g.T.BitStore.BITS (v.head + n) else 0) (if nat_lt n v.len then end_touched g.T.BitStore.BITS (v.head + (n + 1)) else 0) w)) last),
      record {
        writes_back = tt;
        lent = c.get_lent.ensures.lent ∙ ap (λ (n : ℕ). nat_lt n v.len) last ∙ last_lies v.len;
        part = λ is. subst (λ (n : ℕ). IsRangeOf g.T.BitStore.BITS (seen_mut v) n (n + 1) (seen_mut (piece_of c.get_lent.result))) last (c.get_lent.ensures.part is);
      },
    )
