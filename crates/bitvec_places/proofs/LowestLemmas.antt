-- A word without its lowest 1.
use Rattle.std.specs.Prelude.{◌≡◌, ◌≢◌, ℕ, ◌+◌, ◌-◌, ◌*◌, ◌/◌, ◌%◌, ◌^◌, ◌<◌, ◌≤◌, bit_and}
use Rattle.std.specs.Int.{bit_at}
use Rattle.std.proofs.Common.{arith, sym, ◌∙◌, ap, ⊎_elim}
use Rattle.std.proofs.lemmas.Bool.{cases_eq, cases_lt}
use Rattle.std.proofs.lemmas.Nat.{div-add-mod', mod_below, pow_pos}
use Rattle.std.proofs.lemmas.Nat.Bits.{bit_at-pow_other, bit_at-pow_same, bit_at_and, bit_at_cat_high, bit_at_cat_low, bit_at_ones_above, same_from_bits_below}
use Rattle.std.proofs.Math.Pow.{pow-lt}

module _ (n f : ℕ) (set : bit_at n f ≡ 1) (clear : (i : ℕ) → i < f → bit_at n i ≡ 0) where
  -- up to the bit f it is 2 ^ f
  cut : n ≡ n / 2 ^ (f + 1) * 2 ^ (f + 1) + 2 ^ f
  cut =
      let whole = div-add-mod' n (2 ^ (f + 1)) in
      let low = same_from_bits_below (f + 1) (n % 2 ^ (f + 1)) (2 ^ f) (mod_below n (2 ^ (f + 1)) (pow_pos (f + 1))) (pow-lt (omega arith)) (λ i below.
      sym (bit_at_cat_low (n / 2 ^ (f + 1)) (f + 1) (n % 2 ^ (f + 1)) i below)
      ∙ ap (λ (m : ℕ). bit_at m i) whole
      ∙ ⊎_elim (λ (here : i ≡ f). rw here (set ∙ sym (bit_at-pow_same f))) (λ (apart : i ≢ f). clear i (omega arith) ∙ sym (bit_at-pow_other f i apart)) (cases_eq i f)) in
      omega arith

  less : n - 1 ≡ n / 2 ^ (f + 1) * 2 ^ (f + 1) + (2 ^ f - 1)
  less = let whole = cut in let some = pow_pos f in omega arith

  pub lowest-cleared : bit_at (bit_and n (n - 1)) f ≡ 0
  lowest-cleared =
      let none = ap (λ (m : ℕ). bit_at m f) less ∙ bit_at_cat_low (n / 2 ^ (f + 1)) (f + 1) (2 ^ f - 1) f (omega arith) ∙ bit_at_ones_above f f (omega arith) in
      bit_at_and n (n - 1) f ∙ rw none (omega arith)

  pub lowest-others : (k : ℕ) → k ≢ f → bit_at (bit_and n (n - 1)) k ≡ bit_at n k
  lowest-others k apart =
      let top : 2 ^ f < 2 ^ (f + 1) = pow-lt (omega arith) in
      let high = λ (h : f < k).
      (ap (λ (m : ℕ). bit_at m k) less ∙ bit_at_cat_high (n / 2 ^ (f + 1)) (f + 1) (2 ^ f - 1) k (omega arith) (omega arith))
      ∙ sym (ap (λ (m : ℕ). bit_at m k) cut ∙ bit_at_cat_high (n / 2 ^ (f + 1)) (f + 1) (2 ^ f) k top (omega arith)) in
      bit_at_and n (n - 1) k
      ∙ ⊎_elim (λ (before : k < f). let none = clear k before in omega arith) (λ (h : f ≤ k). let same = high (omega arith) in omega arith) (cases_lt k f)
