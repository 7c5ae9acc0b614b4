-- What is found in lists of equal bits, in memories of zeros, and in lists that are compared.
use Rattle.std.specs.Prelude.{◌≡◌, ◌≢◌, ℕ, ◌*◌, ◌/◌, ◌%◌, ◌<◌, ◌==◌, zero, suc, Bool, true, false, Some, None, List, length, replicate, slice_index, refl}
use Rattle.std.specs.Int.{bit_at}
use Rattle.std.specs.List.{list_all, list_any}
use Rattle.std.proofs.Common.{arith, sym, ◌∙◌, ap}
use Rattle.std.proofs.lemmas.List.{get_or-replicate, length-replicate, same_lists}
use Rattle.std.proofs.lemmas.Nat.Bits.{bit_at-zero}
use Rattle.bitvec_base.specs.Lists.{first_place, last_place, same_bits}
use Rattle.bitvec_base.specs.ListsLaws.{same_bits-decides}
use Rattle.bitvec_base.specs.Memory.{memory_bits, place_bit}
use Rattle.bitvec_base.specs.MemoryLaws.{get-memory_bits, length-memory_bits}
use Rattle.bitvec_base.specs.PlacesLaws.{first_place-cons, first_place-other, last_place-other}

-- ---- a list of equal bits has none of the others, and its first is one of them

-- A list of copies of one bit has no first place of the other bit.
pub first-filled : (wanted bit : Bool) (n : ℕ) → bit ≢ wanted → first_place wanted (replicate n bit) ≡ None
first-filled true true n other = absurd (other refl)
first-filled true false n other = first_place-other true n
first-filled false true n other = first_place-other false n
first-filled false false n other = absurd (other refl)

-- A list of copies of one bit has no last place of the other bit.
pub last-filled : (wanted bit : Bool) (n : ℕ) → bit ≢ wanted → last_place wanted (replicate n bit) ≡ None
last-filled true true n other = absurd (other refl)
last-filled true false n other = last_place-other true n
last-filled false true n other = last_place-other false n
last-filled false false n other = absurd (other refl)

-- The first place of a bit in a list of copies of it, which isn't empty, is 0.
pub first-of_filled : (bit : Bool) (n : ℕ) → 0 < n → first_place bit (replicate n bit) ≡ Some 0
first-of_filled bit zero some = absurd (omega arith)
first-of_filled true (suc n) some = rw (first_place-cons true true (replicate n true)) refl
first-of_filled false (suc n) some = rw (first_place-cons false false (replicate n false)) refl

-- Every bit of a list of ones is 1.
pub all-filled : (n : ℕ) → list_all (λ (bit : Bool). bit) (replicate n true) ≡ true
all-filled zero = refl
all-filled (suc n) = all-filled n

-- No bit of a list of zeros is 1.
pub any-filled : (n : ℕ) → list_any (λ (bit : Bool). bit) (replicate n false) ≡ false
any-filled zero = refl
any-filled (suc n) = any-filled n

-- ---- lists that have the same bits are one list

-- Two lists for which `same_bits` is true are equal.
pub same-equal : (a b : List Bool) → same_bits a b ≡ true → a ≡ b
same-equal a b same = (same_bits-decides a b).0 same

-- `same_bits` is true of two equal lists.
pub equal-same : (a b : List Bool) → a ≡ b → same_bits a b ≡ true
equal-same a b same = (same_bits-decides a b).1 same

-- ---- the bits of elements that are all 0

zero_place : (b : ℕ) (at : ℕ → ℕ → ℕ) (xs : List ℕ) (j : ℕ) → slice_index xs (j / b) ≡ 0 → place_bit b at xs j ≡ false
unfolding place_bit
zero_place b at xs j none =
    ap (λ (v : ℕ). bit_at v (at b (j % b)) == 1) none ∙ ap (λ (bit : ℕ). bit == 1) (bit_at-zero (at b (j % b)))

zero_elements : (n e : ℕ) → slice_index (replicate n 0) e ≡ 0
zero_elements zero e = refl
zero_elements (suc n) zero = refl
zero_elements (suc n) (suc e) = zero_elements n e

zero_memory : (b : ℕ) (at : ℕ → ℕ → ℕ) (n : ℕ) → memory_bits b at (replicate n 0) ≡ replicate (b * n) false
zero_memory b at n =
    let long = length-memory_bits b at (replicate n 0) ∙ ap (λ (m : ℕ). b * m) (length-replicate n 0) in
    let many = length-replicate (b * n) false in
    same_lists _ _ (long ∙ sym many) (λ k d inside.
    let below : k < b * n = omega arith in
    get-memory_bits b at (replicate n 0) k d (omega (arith, length-memory_bits b at (replicate n 0)))
    ∙ zero_place b at (replicate n 0) k (zero_elements n (k / b)) ∙ sym (get_or-replicate (b * n) k false d below))

-- A memory whose elements are all 0 has only zeros as its bits.
pub bits-zeros : (b : ℕ) (at : ℕ → ℕ → ℕ) (words : List ℕ) → words ≡ replicate (length words) 0
    → memory_bits b at words ≡ replicate (b * length words) false
bits-zeros b at words zeros = ap (memory_bits b at) zeros ∙ zero_memory b at (length words)
