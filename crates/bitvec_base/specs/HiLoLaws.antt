-- The bit of weight 4 of an index flipped: that this is a lawful order, and that it exchanges the halves of each byte.
use Rattle.std.specs.Prelude.{◌≡◌, ℕ, ◌+◌, ◌-◌, ◌*◌, ◌/◌, ◌%◌, ◌^◌, ◌<◌, ◌⊎◌, ◌==◌, ◌&&◌, ◌||◌, zero, suc, Bool, true, nat_lt, bit_and, bit_or, bit_xor, refl}
use Rattle.std.specs.Bool.{Decides}
use Rattle.std.specs.Int.{bit_at}
use Rattle.std.proofs.Common.{arith, sym, ◌∙◌, ap, ⊎_elim, lit<}
use Rattle.std.proofs.lemmas.Bool.Decides.{Decides-eqb, Decides-ltb, Decides-and, Decides-or, Decides-below_and}
use Rattle.std.proofs.lemmas.Nat.{pow_pos, div_below}
use Rattle.std.proofs.lemmas.Nat.Bits.{same_from_bits, bit_at_and, bit_at_or, bit_at_xor, bit_at-lt}
use Rattle.bitvec_base.specs.Order.{Permutes}
use Rattle.bitvec_store.specs.Width.{IsWidth}
use Rattle.bitvec_store.specs.WidthLaws.{at_each_width}
use Rattle.bitvec_base.specs.MemoryLaws.{bit_of_complement}
use Rattle.bitvec_base.specs.ShiftLaws.{bit_at_shl, bit_at_shr}

-- the low half of each byte of b bits, as ones
abbrev pub low_halves : ℕ → ℕ
low_halves b = (2 ^ b - 1) / 17

-- where the flipped bit takes an index of b: up by 4 from a low half, down by 4 from a high one
abbrev IsFlipped : ℕ → ℕ → Type 0
IsFlipped b i = (bit_xor i 4 < b) × (((bit_xor i 4 ≡ i + 4) × (bit_at (low_halves b) (bit_xor i 4) ≡ 0)) ⊎ ((bit_xor i 4 + 4 ≡ i) × (bit_at (low_halves b) (bit_xor i 4) ≡ 1)))

abbrev is_flipped : ℕ → ℕ → Bool
is_flipped b i = nat_lt (bit_xor i 4) b && (((bit_xor i 4 == i + 4) && (bit_at (low_halves b) (bit_xor i 4) == 0)) || ((bit_xor i 4 + 4 == i) && (bit_at (low_halves b) (bit_xor i 4) == 1)))

is_flipped-Decides : (b i : ℕ) → Decides (is_flipped b i) (IsFlipped b i)
is_flipped-Decides b i =
    Decides-and _ _ (Decides-ltb (bit_xor i 4) b)
    (Decides-or _ _
    (Decides-and _ _ (Decides-eqb (bit_xor i 4) (i + 4)) (Decides-eqb (bit_at (low_halves b) (bit_xor i 4)) 0))
    (Decides-and _ _ (Decides-eqb (bit_xor i 4 + 4) i) (Decides-eqb (bit_at (low_halves b) (bit_xor i 4)) 1)))

-- whether each index below n is so taken
abbrev all_flipped : ℕ → ℕ → Bool
all_flipped b zero = true
all_flipped b (suc n) = is_flipped b n && all_flipped b n

-- at each width the test holds, by computing it
flipped : (b : ℕ) → IsWidth b → (i : ℕ) → i < b → IsFlipped b i
flipped b w =
    (Decides-below_and (is_flipped b) (IsFlipped b) (all_flipped b) (is_flipped-Decides b) refl (λ _. refl) b).0
    (at_each_width (λ n. all_flipped n n ≡ true) refl refl refl refl refl b w)

pub flip_below : (b : ℕ) → IsWidth b → (i : ℕ) → i < b → bit_xor i 4 < b
flip_below b w i h = (flipped b w i h).0

-- to flip the same bits twice changes nothing
flip_twice : (n m : ℕ) → bit_xor (bit_xor n m) m ≡ n
flip_twice n m =
    same_from_bits _ _ (λ i.
    let x = bit_at_xor (bit_xor n m) m i in
    let y = bit_at_xor n m i in
    let l = bit_at-lt n i in
    let h = bit_at-lt m i in
    omega arith)

pub hilo_permutes : (b : ℕ) → IsWidth b → Permutes b (λ i. bit_xor i 4)
hilo_permutes b w = record {
  below = flip_below b w;
  apart = λ i j h k e. sym (flip_twice i 4) ∙ ap (λ n. bit_xor n 4) e ∙ flip_twice j 4;
}

-- ---- the halves of each byte exchanged

-- what the exchange gives, by the numbers that the operations of an element give
pub halves-exchanged : (b : ℕ) → IsWidth b → (v i : ℕ) → i < b → bit_at (bit_or (bit_and ((v * 2 ^ 4) % 2 ^ b) (2 ^ b - 1 - low_halves b)) (bit_and (v / 2 ^ 4) (low_halves b))) (bit_xor i 4) ≡ bit_at v i
halves-exchanged b w v i h =
    let f = flipped b w i h in
    let q = bit_xor i 4 in
    let up = (v * 2 ^ 4) % 2 ^ b in
    let down = v / 2 ^ 4 in
    let rest = 2 ^ b - 1 - low_halves b in
    let joined = bit_at_or (bit_and up rest) (bit_and down (low_halves b)) q in
    let first = bit_at_and up rest q in
    let second = bit_at_and down (low_halves b) q in
    let top = pow_pos b in
    let other = bit_of_complement b (low_halves b) q (div_below (2 ^ b - 1) 17 (2 ^ b) (lit< tt) (omega arith)) f.0 in
    let up-bit = bit_at-lt up q in
    let down-bit = bit_at-lt down q in
    ⊎_elim
    (λ low. let moved : bit_at up q ≡ bit_at v i = ap (bit_at up) low.0 ∙ bit_at_shl b v 4 i (omega (arith, f.0)) in omega (arith, other))
    (λ high. let moved : bit_at down q ≡ bit_at v i = bit_at_shr v 4 q ∙ ap (bit_at v) high.0 in omega (arith, other))
    f.1
