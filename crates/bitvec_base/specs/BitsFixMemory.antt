-- The bits of a memory fix its numbers: equal bits are of equal elements, and elements outside a write are kept.
use Rattle.std.specs.Prelude.{◌≡◌, ℕ, ◌+◌, ◌*◌, ◌/◌, ◌^◌, ◌<◌, ◌≤◌, ◌⊎◌, ◌==◌, Bool, false, List, length, slice_index, slice_index_or, slice_range}
use Rattle.std.specs.Int.{bit_at}
use Rattle.std.proofs.Common.{arith, sym, ◌∙◌, ap, subst, ⊎_elim}
use Rattle.std.proofs.lemmas.Bool.{cases_lt}
use Rattle.std.proofs.lemmas.Bool.Decides.{nat_tests}
use Rattle.std.proofs.Math.Nat.{mul-div_cancel_left}
use Rattle.std.proofs.lemmas.Grind.{same_number_lists}
use Rattle.std.proofs.lemmas.List.{get_or_past}
use Rattle.std.proofs.lemmas.Nat.Bits.{bit_at-lt, same_from_bits_below}
use Rattle.bitvec_base.specs.Memory.{memory_bits, element_bits}
use Rattle.bitvec_base.specs.MemoryLaws.{length-memory_bits, get-element_bits, element_fits, element-range}
use Rattle.bitvec_base.specs.Order.{Permutes}
use Rattle.bitvec_store.specs.Width.{FitWidth}
use Rattle.bitvec_base.specs.OrderLaws.{Permutes-onto}
use Rattle.bitvec_base.specs.Window.{write_at}
use Rattle.bitvec_base.specs.WriteLaws.{length-write_at, range-write_at_before, range-write_at_after}

same_bit : (c d : ℕ) → c < 2 → d < 2 → (c == 1) ≡ (d == 1) → c ≡ d
same_bit c d hc hd e = grind (arith, nat_tests)

-- Two numbers below `2 ^ b` whose `b` bits are equal under a lawful order are the same number.
pub element_bits-fix : (b : ℕ) (at : ℕ → ℕ → ℕ) → Permutes b (at b) → (v w : ℕ) → v < 2 ^ b → w < 2 ^ b → element_bits b at v ≡ element_bits b at w → v ≡ w
element_bits-fix b at p v w hv hw e =
    same_from_bits_below b v w hv hw (λ place h.
    let found = Permutes-onto b (at b) p place h in
    let i = found.0 in
    let same : (bit_at v (at b i) == 1) ≡ (bit_at w (at b i) == 1) =
    sym (get-element_bits b at v i false found.1) ∙ ap (λ (l : List Bool). slice_index_or l i false) e ∙ get-element_bits b at w i false found.1 in
    subst (λ (q : ℕ). bit_at v q ≡ bit_at w q) found.2 (same_bit _ _ (bit_at-lt v (at b i)) (bit_at-lt w (at b i)) same))

-- an element whose part of the bits is the same
same_element : (b : ℕ) (at : ℕ → ℕ → ℕ) → Permutes b (at b) → (xs ys : List ℕ) (e : ℕ) → slice_index xs e < 2 ^ b → slice_index ys e < 2 ^ b → e < length xs → e < length ys
    → slice_range (memory_bits b at xs) (e * b) (e * b + b) ≡ slice_range (memory_bits b at ys) (e * b) (e * b + b) → slice_index xs e ≡ slice_index ys e
same_element b at p xs ys e fx fy hx hy same =
    element_bits-fix b at p (slice_index xs e) (slice_index ys e) fx fy
    (sym (element-range b at xs e hx) ∙ same ∙ element-range b at ys e hy)

-- memories with as many bits have as many elements
same_length : (b : ℕ) (at : ℕ → ℕ → ℕ) → 0 < b → (xs ys : List ℕ) → length (memory_bits b at xs) ≡ length (memory_bits b at ys) → length xs ≡ length ys
same_length b at some xs ys same =
    sym (mul-div_cancel_left (length xs) some)
    ∙ ap (λ (n : ℕ). n / b) (sym (length-memory_bits b at xs) ∙ same ∙ length-memory_bits b at ys)
    ∙ mul-div_cancel_left (length ys) some

-- Two memories of elements of `b` bits that have the same bits under a lawful order are the same memory.
pub memory_bits-fix : (b : ℕ) (at : ℕ → ℕ → ℕ) → 0 < b → Permutes b (at b) → (xs ys : List ℕ) → FitWidth b xs → FitWidth b ys → memory_bits b at xs ≡ memory_bits b at ys → xs ≡ ys
memory_bits-fix b at some p xs ys fx fy same =
    let long = same_length b at some xs ys (ap length same) in
    same_number_lists xs ys long (λ e inside.
    let other : e < length ys = omega arith in
    same_element b at p xs ys e (fx e inside) (fy e other) inside other (ap (λ (l : List Bool). slice_range l (e * b) (e * b + b)) same))

-- An element keeps its number where a write of bits ends before it or begins behind it.
pub write_at-keeps : (b : ℕ) (at : ℕ → ℕ → ℕ) → 0 < b → Permutes b (at b) → (xs ys : List ℕ) (s : ℕ) (new : List Bool)
    → s + length new ≤ b * length xs → memory_bits b at ys ≡ write_at (memory_bits b at xs) s new
    → (e : ℕ) → (e * b + b ≤ s) ⊎ (s + length new ≤ e * b)
    → (e < length xs → slice_index xs e < 2 ^ b) → (e < length ys → slice_index ys e < 2 ^ b) → slice_index ys e ≡ slice_index xs e
write_at-keeps b at some p xs ys s new fits wrote e out fx fy =
    let whole = length-memory_bits b at xs in
    let within : s + length new ≤ length (memory_bits b at xs) = omega arith in
    let long = same_length b at some xs ys (sym (ap length wrote ∙ length-write_at (memory_bits b at xs) s new within)) in
    ⊎_elim
    (λ inside.
    let end = element_fits b e (length xs) inside in
    let other : e < length ys = omega arith in
    sym (same_element b at p xs ys e (fx inside) (fy other) inside other
    (sym (ap (λ (l : List Bool). slice_range l (e * b) (e * b + b)) wrote
    ∙ ⊎_elim
    (λ before. range-write_at_before (memory_bits b at xs) s new (e * b) (e * b + b) within before)
    (λ after. range-write_at_after (memory_bits b at xs) s new (e * b) (e * b + b) within after (omega arith))
    out))))
    (λ outside. get_or_past ys e 0 (omega arith) ∙ sym (get_or_past xs e 0 outside))
    (cases_lt e (length xs))
