-- Powers of two: a table of them, and numbers below them.
use Rattle.std.specs.Prelude.{◌≡◌, ℕ, ◌+◌, ◌-◌, ◌*◌, ◌/◌, ◌%◌, ◌^◌, ◌<◌, ◌≤◌, Bool, false, List, [], ◌∷◌, bit_and, slice_index_or, zero, suc}
use Rattle.std.proofs.Common.{arith, sym, ◌∙◌, ap, subst}
use Rattle.std.proofs.lemmas.Nat.{and_mask, div-add-mod', mod_below, pow_pos, shl_below, shr_below}
use Rattle.std.proofs.Math.Nat.{mod-eq_of_lt}
use Rattle.std.proofs.Math.Pow.{pow_mono}
use Rattle.bitrecord.specs.Runs.{SplitsOff}

below-more : (a m n : ℕ) → a < m → m ≤ n → a < n
below-more a m n low most = omega arith

-- so many powers of two, from this exponent on
abbrev pub powers_from : ℕ → ℕ → List ℕ
powers_from n zero = []
powers_from n (suc m) = 2 ^ n ∷ powers_from (suc n) m

power-from : (m n k : ℕ) → k < m → slice_index_or (powers_from n m) k 0 ≡ 2 ^ (n + k)
power-from zero n k low = absurd (omega arith)
power-from (suc m) n zero low = ap (λ (e : ℕ). 2 ^ e) (omega arith)
power-from (suc m) n (suc k) low = power-from m (suc n) k (omega arith) ∙ ap (λ (e : ℕ). 2 ^ e) (omega arith)

pub power-at : (m k : ℕ) → k < m → slice_index_or (powers_from 0 m) k 0 ≡ 2 ^ k
power-at m k low = power-from m 0 k low ∙ ap (λ (e : ℕ). 2 ^ e) (omega arith)

pub wide-enough : (value len : ℕ) → value < 2 ^ 128 → 128 ≤ len → value < 2 ^ len
wide-enough value len fits wide = below-more value (2 ^ 128) (2 ^ len) fits (pow_mono wide)

-- ---- in a word of 64 bits

pub fits-word : (value len : ℕ) → value < 2 ^ len → len ≤ 64 → value < 2 ^ 64
fits-word value len fits bound = below-more value (2 ^ len) (2 ^ 64) fits (pow_mono bound)

pub above-fits : (value len : ℕ) → 64 < len → value < 2 ^ len → value / 2 ^ 64 < 2 ^ (len - 64)
above-fits value len wide fits = shr_below value (len - 64) 64 (subst (λ (k : ℕ). value < 2 ^ k) (let e : len ≡ len - 64 + 64 = omega arith in e) fits)

pub moved-kept : (number len : ℕ) → number < 2 ^ len → len ≤ 64 → number * 2 ^ (64 - len) % 2 ^ 64 ≡ number * 2 ^ (64 - len)
moved-kept number len fits bound =
    mod-eq_of_lt (subst (λ (k : ℕ). number * 2 ^ (64 - len) < 2 ^ k) (let e : len + (64 - len) ≡ 64 = omega arith in e) (shl_below number len (64 - len) fits))

pub split-low : (high : Bool) (word len power : ℕ) → high ≡ false → power ≡ 2 ^ len → SplitsOff high word len (bit_and word (power - 1)) (word / 2 ^ len)
split-low high word len power is pow = rw (is, pow, and_mask word len) (sym (div-add-mod' word (2 ^ len)), mod_below word (2 ^ len) (pow_pos len))
