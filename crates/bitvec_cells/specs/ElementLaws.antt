-- The bits of a whole element: filled, flipped, counted; and without one of them.
use Rattle.std.specs.Prelude.{◌≡◌, ℕ, ◌+◌, ◌-◌, ◌^◌, ◌<◌, ◌==◌, if◌then◌else◌, zero, suc, Bool, true, false, not, map, replicate, count_by, count_ones, bit_and, refl}
use Rattle.std.specs.Int.{bit_at}
use Rattle.std.specs.List.{range_with_len}
use Rattle.std.proofs.Common.{arith, sym, ◌∙◌, ap}
use Rattle.std.proofs.Math.Nat.{mod-eq_of_lt}
use Rattle.std.proofs.lemmas.List.{get_or-map, length-map, same_lists}
use Rattle.std.proofs.lemmas.Nat.{and_mask}
use Rattle.bitvec_base.specs.MaskLaws.{mask_of-count, mask_of-more, mask_of-none}
use Rattle.bitvec_base.specs.Memory.{element_bits}
use Rattle.bitvec_base.specs.MemoryLaws.{bit_of_complement, get-element_bits, length-element_bits}
use Rattle.bitvec_base.specs.Order.{Permutes, mask_of}
use Rattle.bitvec_base.specs.PartLaws.{element-all, element-none, mask_of-whole}

-- the one bit of an index is the mask of that index alone
pub single_mask : (at : ℕ → ℕ) (i : ℕ) → 2 ^ at i ≡ mask_of at i (i + 1)
single_mask at i = let none = mask_of-none at i in let more = mask_of-more at i i (omega arith) in omega arith

pub element-filled : (b : ℕ) (at : ℕ → ℕ → ℕ) → Permutes b (at b) → (bit : Bool) → element_bits b at (if bit then 2 ^ b - 1 else 0) ≡ replicate b bit
element-filled b at p true = element-all b at p
element-filled b at p false = element-none b at

other_bit : (c d : ℕ) → c + d ≡ 1 → (c == 1) ≡ not (d == 1)
other_bit zero d sum = let one : d ≡ 1 = omega arith in rw one refl
other_bit (suc zero) d sum = let none : d ≡ 0 = omega arith in rw none refl
other_bit (suc (suc c)) d sum = absurd (omega arith)

pub element-flipped : (b : ℕ) (at : ℕ → ℕ → ℕ) → Permutes b (at b) → (v : ℕ) → v < 2 ^ b → element_bits b at (2 ^ b - 1 - v) ≡ map not (element_bits b at v)
element-flipped b at p v small =
    let old = length-element_bits b at v in
    let new = length-element_bits b at (2 ^ b - 1 - v) in
    let flipped = length-map (element_bits b at v) not in
    same_lists _ _ (omega arith) (λ k d inside.
    let below : k < b = omega arith in
    get-element_bits b at (2 ^ b - 1 - v) k d below
    ∙ other_bit _ _ (bit_of_complement b v (at b k) small (p.below k below))
    ∙ ap not (sym (get-element_bits b at v k false below))
    ∙ sym (get_or-map not (element_bits b at v) k false d (omega arith)))

pub element-count : (b : ℕ) (at : ℕ → ℕ → ℕ) → Permutes b (at b) → (v : ℕ) → v < 2 ^ b → count_ones v ≡ count_by (λ (bit : Bool). bit) (element_bits b at v)
unfolding element_bits
element-count b at p v small =
    let all : b - 0 ≡ b = omega arith in
    let whole : bit_and v (mask_of (at b) 0 b) ≡ v = rw (← mask_of-whole b (at b) p) (and_mask v b ∙ mod-eq_of_lt small) in
    ap count_ones (sym whole)
    ∙ mask_of-count b (at b) p v 0 b (omega arith) (omega arith)
    ∙ ap (λ (n : ℕ). count_by (λ (bit : Bool). bit) (map (λ i. bit_at v (at b i) == 1) (range_with_len 0 n))) all
