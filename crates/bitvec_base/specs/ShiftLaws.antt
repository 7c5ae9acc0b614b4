-- The bits of a number that is moved up within b bits, or down.
use Rattle.std.specs.Prelude.{◌≡◌, ℕ, ◌+◌, ◌-◌, ◌*◌, ◌/◌, ◌%◌, ◌^◌, ◌<◌}
use Rattle.std.specs.Int.{bit_at}
use Rattle.std.proofs.Common.{arith, sym, ◌∙◌, ap}
use Rattle.std.proofs.lemmas.Nat.{shr-shr, shr_split, pow_pos}
use Rattle.std.proofs.lemmas.Nat.Bits.{bit_at_cat_low, bit_at_cat_high, bit_at-zero}

-- what stands within the b bits is the same without the cut
pub bit_at_cut : (b v p : ℕ) → p < b → bit_at (v % 2 ^ b) p ≡ bit_at v p
bit_at_cut b v p h = sym (bit_at_cat_low (v / 2 ^ b) b (v % 2 ^ b) p h) ∙ ap (λ (n : ℕ). bit_at n p) (shr_split v b)

-- bits moved up within b bits, and the places that they left
pub bit_at_shl : (b v k i : ℕ) → i + k < b → bit_at ((v * 2 ^ k) % 2 ^ b) (i + k) ≡ bit_at v i
bit_at_shl b v k i h =
    let moved = bit_at_cat_high v k 0 (i + k) (pow_pos k) (omega arith) in
    let back : i + k - k ≡ i = omega arith in
    let none : v * 2 ^ k + 0 ≡ v * 2 ^ k = omega arith in
    bit_at_cut b (v * 2 ^ k) (i + k) h ∙ sym (ap (λ (n : ℕ). bit_at n (i + k)) none) ∙ moved ∙ ap (bit_at v) back

pub bit_at_shl_left : (b v k p : ℕ) → p < b → p < k → bit_at ((v * 2 ^ k) % 2 ^ b) p ≡ 0
bit_at_shl_left b v k p h low =
    let none : v * 2 ^ k + 0 ≡ v * 2 ^ k = omega arith in
    bit_at_cut b (v * 2 ^ k) p h ∙ sym (ap (λ (n : ℕ). bit_at n p) none) ∙ bit_at_cat_low v k 0 p low ∙ bit_at-zero p

-- bits moved down
pub bit_at_shr : (v k i : ℕ) → bit_at (v / 2 ^ k) i ≡ bit_at v (i + k)
bit_at_shr v k i = ap (λ (n : ℕ). n % 2) (shr-shr v k i) ∙ ap (bit_at v) (let swapped : k + i ≡ i + k = omega arith in swapped)
