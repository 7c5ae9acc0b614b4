-- When lists have the same bits: by parts side by side, and by the differing bits of elements.
use Rattle.std.specs.Prelude.{◌≡◌, ℕ, ◌+◌, ◌-◌, ◌^◌, ◌<◌, ◌≤◌, ◌==◌, Bool, false, ◌&&◌, List, ◌++◌, length, drop, slice_range, slice_index_or, bit_and, bit_or, bit_xor, refl}
use Rattle.std.specs.Int.{bit_at}
use Rattle.std.specs.Int.Bits.{xor_self}
use Rattle.std.proofs.Common.{arith, sym, ◌∙◌, ap, subst, ⊎_elim}
use Rattle.std.proofs.lemmas.Bool.{cases_lt}
use Rattle.std.proofs.lemmas.Bool.Decides.{Decides-and, Decides-eqb, Decides-like, nat_tests, same_from_decides}
use Rattle.std.proofs.lemmas.List.{same_lists, places}
use Rattle.std.proofs.lemmas.Nat.Bits.{bit_at_above, bit_at_and, bit_at_or, bit_at_xor, bit_at-lt, bit_at-zero, same_from_bits}
use Rattle.std.proofs.Math.Seq.{drop-append_seam}
use Rattle.bitvec_base.specs.BitsFixMemory.{element_bits-fix}
use Rattle.bitvec_base.specs.Lists.{same_bits}
use Rattle.bitvec_base.specs.ListsLaws.{same_bits-decides}
use Rattle.bitvec_base.specs.MaskLaws.{mask_of-below, mask_of-has, mask_of-lacks}
use Rattle.bitvec_base.specs.Memory.{element_bits}
use Rattle.bitvec_base.specs.MemoryLaws.{length-element_bits, get-element_bits}
use Rattle.bitvec_base.specs.Order.{Permutes, mask_of}
use Rattle.bitvec_base.specs.OrderLaws.{Permutes-onto}

-- ---- lists

front_same : (a b c d : List Bool) → length a ≡ length b → a ++ c ≡ b ++ d → a ≡ b
front_same a b c d long same = same_lists _ _ long (λ i e inside. grind (arith, places))

rest_same : (a b c d : List Bool) → length a ≡ length b → a ++ c ≡ b ++ d → c ≡ d
rest_same a b c d long same = sym (drop-append_seam a c) ∙ ap (drop (length a)) same ∙ ap (λ (n : ℕ). drop n (b ++ d)) long ∙ drop-append_seam b d

-- lists side by side, the first ones as long
pub same-joined : (a b c d : List Bool) → length a ≡ length b → same_bits (a ++ c) (b ++ d) ≡ (same_bits a b && same_bits c d)
same-joined a b c d long =
    same_from_decides _ _ (same_bits-decides (a ++ c) (b ++ d))
    (Decides-like (same_bits a b && same_bits c d)
    (λ h. ap (λ (l : List Bool). l ++ c) h.0 ∙ ap (λ (l : List Bool). b ++ l) h.1)
    (λ e. (front_same a b c d long e, rest_same a b c d long e))
    (Decides-and (same_bits a b) (same_bits c d) (same_bits-decides a b) (same_bits-decides c d)))

-- ---- numbers

pub or_none : (a c : ℕ) → bit_or a c ≡ 0 → a ≡ 0
or_none a c none =
    same_from_bits a 0 (λ i.
    omega (arith, bit_at_or a c i))

pub or_none_right : (a c : ℕ) → bit_or a c ≡ 0 → c ≡ 0
or_none_right a c none =
    same_from_bits c 0 (λ i.
    omega (arith, bit_at_or a c i))

-- no bit is left in either of two numbers
pub or_zero : (a c : ℕ) → (bit_or a c == 0) ≡ ((a == 0) && (c == 0))
or_zero a c =
    same_from_decides _ _ (Decides-eqb (bit_or a c) 0)
    (Decides-like ((a == 0) && (c == 0)) (λ h. rw (h.0, h.1) refl) (λ e. (or_none a c e, or_none_right a c e)) (Decides-and (a == 0) (c == 0) (Decides-eqb a 0) (Decides-eqb c 0)))

-- numbers with no differing bit
pub xor_none : (v w : ℕ) → bit_xor v w ≡ 0 → v ≡ w
xor_none v w none =
    same_from_bits v w (λ i.
    omega (arith, bit_at_xor v w i))

-- ---- elements

-- elements with no differing bit
pub same-whole : (b : ℕ) (at : ℕ → ℕ → ℕ) → Permutes b (at b) → (v w : ℕ) → v < 2 ^ b → w < 2 ^ b → (bit_xor v w == 0) ≡ same_bits (element_bits b at v) (element_bits b at w)
same-whole b at p v w hv hw =
    same_from_decides _ _ (Decides-eqb (bit_xor v w) 0)
    (Decides-like (same_bits (element_bits b at v) (element_bits b at w)) (λ h. rw (element_bits-fix b at p v w hv hw h) (xor_self w)) (λ e. ap (element_bits b at) (xor_none v w e)) (same_bits-decides _ _))

-- ---- the differing bits behind a mask

-- where none is left, the parts are the same
parts_same : (b : ℕ) (at : ℕ → ℕ → ℕ) → Permutes b (at b) → (v w from to : ℕ) → from ≤ to → to ≤ b → bit_and (bit_xor v w) (mask_of (at b) from to) ≡ 0 → slice_range (element_bits b at v) from to ≡ slice_range (element_bits b at w) from to
parts_same b at p v w from to order bound none =
    same_lists _ _ (grind (arith, places, length-element_bits)) (λ k d inside.
    let q : ℕ = at b (from + k) in
    grind (arith, nat_tests, places, length-element_bits, get-element_bits, mask_of-has b (at b) p from to bound (from + k), bit_at_and (bit_xor v w) (mask_of (at b) from to) q, bit_at_xor v w q, bit_at-lt v q, bit_at-lt w q, ap (λ (n : ℕ). bit_at n q) none, bit_at-zero))

-- where the parts are the same, no bit is left
no_bit : (b : ℕ) (at : ℕ → ℕ → ℕ) → Permutes b (at b) → (v w from to : ℕ) → from ≤ to → to ≤ b → slice_range (element_bits b at v) from to ≡ slice_range (element_bits b at w) from to
    → (i : ℕ) → i < b → bit_at (bit_and (bit_xor v w) (mask_of (at b) from to)) (at b i) ≡ 0
no_bit b at p v w from to order bound same i below =
    let q : ℕ = at b i in
    grind (arith, nat_tests, places, length-element_bits, get-element_bits, mask_of-lacks b (at b) p from to order bound i below, bit_at_and (bit_xor v w) (mask_of (at b) from to) q, bit_at_xor v w q, bit_at-lt v q, bit_at-lt w q, ap (λ (l : List Bool). slice_index_or l (i - from) false) same)

none_left : (b : ℕ) (at : ℕ → ℕ → ℕ) → Permutes b (at b) → (v w from to : ℕ) → from ≤ to → to ≤ b → slice_range (element_bits b at v) from to ≡ slice_range (element_bits b at w) from to → bit_and (bit_xor v w) (mask_of (at b) from to) ≡ 0
none_left b at p v w from to order bound same =
    same_from_bits _ 0 (λ q. ⊎_elim
    (λ (inside : q < b).
    let found = Permutes-onto b (at b) p q inside in
    subst (λ (n : ℕ). bit_at (bit_and (bit_xor v w) (mask_of (at b) from to)) n ≡ bit_at 0 n) found.2
    (no_bit b at p v w from to order bound same found.0 found.1 ∙ sym (bit_at-zero (at b found.0))))
    (λ (above : b ≤ q).
    let met = bit_at_and (bit_xor v w) (mask_of (at b) from to) q in
    let lacks = bit_at_above (mask_of (at b) from to) b q (mask_of-below b (at b) p from to order bound) above in
    omega arith)
    (cases_lt q b))

pub same-between : (b : ℕ) (at : ℕ → ℕ → ℕ) → Permutes b (at b) → (v w from to : ℕ) → from ≤ to → to ≤ b
    → (bit_and (bit_xor v w) (mask_of (at b) from to) == 0) ≡ same_bits (slice_range (element_bits b at v) from to) (slice_range (element_bits b at w) from to)
same-between b at p v w from to order bound =
    same_from_decides _ _ (Decides-eqb (bit_and (bit_xor v w) (mask_of (at b) from to)) 0)
    (Decides-like (same_bits (slice_range (element_bits b at v) from to) (slice_range (element_bits b at w) from to))
    (none_left b at p v w from to order bound) (parts_same b at p v w from to order bound)
    (same_bits-decides (slice_range (element_bits b at v) from to) (slice_range (element_bits b at w) from to)))
