-- What is done with a part of an element, to the bits of the memory.
use Rattle.std.specs.Prelude.{◌≡◌, ℕ, ◌+◌, ◌-◌, ◌*◌, ◌/◌, ◌%◌, ◌^◌, ◌<◌, ◌≤◌, if◌then◌else◌, Bool, true, false, not, List, [], ◌∷◌, length, map, replicate, slice_range, slice_set, slice_index, bit_and, bit_xor, count_by, count_ones, refl, zero, suc}
use Rattle.std.specs.Int.{bit_at}
use Rattle.std.proofs.Common.{arith, sym, ◌∙◌, ap}
use Rattle.std.proofs.Math.Nat.{mod-eq_of_lt}
use Rattle.std.proofs.lemmas.List.{length-map, length-replicate, length-set}
use Rattle.std.proofs.lemmas.Nat.{and_mask, div_below, div-add-mod', mod_below, pow_pos, xor_lt}
use Rattle.std.proofs.lemmas.Nat.Bits.{bit_at-lt, bit_at_ones, bit_at_xor, same_from_bits_below}
use Rattle.bitvec_base.specs.declared.part.Part.{Part}
use Rattle.bitvec_base.specs.Memory.{memory_bits, element_bits, list_in, Writes}
use Rattle.bitvec_base.specs.Order.{Permutes, mask_of}
use Rattle.bitvec_store.specs.Width.{IsWidth}
use Rattle.bitvec_base.specs.Parts.{HasPart, part_window}
use Rattle.bitvec_base.specs.Window.{window_of, write_at}
use Rattle.bitvec_store.specs.WidthLaws.{width_some}
use Rattle.bitvec_base.specs.WriteLaws.{length-slice_range, write_at-all}
use Rattle.bitvec_base.specs.MemoryLaws.{bit_of_complement, element_fits, length-element_bits, length-memory_bits}
use Rattle.bitvec_base.specs.PartLaws.{mask_of-whole, part-clear, part-count, part-flip, part-range, part-set, part-write}
use Rattle.bitvec_cells.specs.Element.{put_mask}
use Rattle.bitvec_cells.specs.ElementLaws.{element-filled, single_mask}

pub part-put : (b : ℕ) (at : ℕ → ℕ → ℕ) → IsWidth b → Permutes b (at b) → (xs : List ℕ) (e from to : ℕ) (bit : Bool) → e < length xs → from ≤ to → to ≤ b → memory_bits b at (slice_set xs e (put_mask b (slice_index xs e) (mask_of (at b) from to) bit)) ≡ write_at (memory_bits b at xs) (e * b + from) (replicate (to - from) bit)
part-put b at w p xs e from to true h le fits = part-set b at p xs e from to (width_some b w) h le fits
part-put b at w p xs e from to false h le fits = part-clear b at p xs e from to (width_some b w) h le fits

replicate_one : (n : ℕ) (bit : Bool) → n ≡ 1 → replicate n bit ≡ bit ∷ []
replicate_one n bit e = rw e refl

-- a place of the memory, put
pub place-put : {b : ℕ} (at : ℕ → ℕ → ℕ) → IsWidth b → Permutes b (at b) → (xs : List ℕ) {j : ℕ} (bit : Bool) → j < b * length xs → memory_bits b at (slice_set xs (j / b) (put_mask b (slice_index xs (j / b)) (2 ^ at b (j % b)) bit)) ≡ write_at (memory_bits b at xs) j (bit ∷ [])
place-put {b} at w p xs {j} bit h =
    let some = width_some b w in
    let inside : j / b < length xs = div_below j b (length xs) some (omega arith) in
    let below : j % b < b = mod_below j b some in
    let place : j / b * b + j % b ≡ j = div-add-mod' j b in
    let one : j % b + 1 - j % b ≡ 1 = omega arith in
    rw (single_mask (at b) (j % b))
    (part-put b at w p xs (j / b) (j % b) (j % b + 1) bit inside (omega arith) (omega arith)
    ∙ ap (λ (s : ℕ). write_at (memory_bits b at xs) s (replicate (j % b + 1 - j % b) bit)) place
    ∙ ap (λ (l : List Bool). write_at (memory_bits b at xs) j l) (replicate_one _ bit one))

-- a whole element, filled
whole-set : (b : ℕ) (at : ℕ → ℕ → ℕ) → IsWidth b → Permutes b (at b) → (xs : List ℕ) (e v : ℕ) (bit : Bool) → e < length xs → element_bits b at v ≡ replicate b bit → memory_bits b at (slice_set xs e v) ≡ write_at (memory_bits b at xs) (e * b) (replicate b bit)
whole-set b at w p xs e v bit h filled =
    let old = length-element_bits b at (slice_index xs e) in
    let long = length-replicate b bit in
    let zero_on : e * b + 0 ≡ e * b = omega arith in
    part-write b at xs e 0 b v (replicate b bit) (width_some b w) h (omega arith) (omega arith) (omega arith)
    (filled ∙ sym (write_at-all (element_bits b at (slice_index xs e)) (replicate b bit) (omega arith)))
    ∙ ap (λ (s : ℕ). write_at (memory_bits b at xs) s (replicate b bit)) zero_on

-- ---- a part is a window of the memory

part-list : (b : ℕ) (at : ℕ → ℕ → ℕ) (xs : List ℕ) (part : Part) → part.from ≤ part.to → list_in b at xs (part_window b part) ≡ slice_range (memory_bits b at xs) (part.element * b + part.from) (part.element * b + part.to)
unfolding window_of
part-list b at xs part order =
    ap (λ (e : ℕ). slice_range (memory_bits b at xs) (part.element * b + part.from) e) (let end : part.element * b + part.from + (part.to - part.from) ≡ part.element * b + part.to = omega arith in end)

pub part-read : {b : ℕ} (at : ℕ → ℕ → ℕ) {xs : List ℕ} {part : Part} → HasPart b xs part → slice_range (element_bits b at (slice_index xs part.element)) part.from part.to ≡ list_in b at xs (part_window b part)
part-read {b} at {xs} {part} has = part-range b at xs part.element part.from part.to has.element has.bound ∙ sym (part-list b at xs part has.order)

pub part-ones : {b : ℕ} (at : ℕ → ℕ → ℕ) {xs : List ℕ} {part : Part} → Permutes b (at b) → HasPart b xs part → count_ones (bit_and (slice_index xs part.element) (mask_of (at b) part.from part.to)) ≡ count_by (λ (bit : Bool). bit) (list_in b at xs (part_window b part))
part-ones {b} at {xs} {part} p has =
    part-count b at p xs part.element part.from part.to has.element has.order has.bound
    ∙ ap (λ (l : List Bool). count_by (λ (bit : Bool). bit) l) (sym (part-list b at xs part has.order))

pub part-filled : {b : ℕ} {at : ℕ → ℕ → ℕ} → IsWidth b → Permutes b (at b) → (xs : List ℕ) (part : Part) (bit : Bool) → HasPart b xs part
    → Writes b at xs (slice_set xs part.element (put_mask b (slice_index xs part.element) (mask_of (at b) part.from part.to) bit)) (part_window b part) (replicate (part.to - part.from) bit)
part-filled {b} {at} w p xs part bit has = record {
  bits = part-put b at w p xs part.element part.from part.to bit has.element has.order has.bound;
  long = length-replicate (part.to - part.from) bit;
  elements = length-set xs part.element _;
}

pub part-whole : {b : ℕ} {at : ℕ → ℕ → ℕ} → IsWidth b → Permutes b (at b) → (xs : List ℕ) (part : Part) (bit : Bool) → HasPart b xs part → part.to - part.from ≡ b
    → Writes b at xs (slice_set xs part.element (if bit then 2 ^ b - 1 else 0)) (part_window b part) (replicate (part.to - part.from) bit)
part-whole {b} {at} w p xs part bit has all =
    let bound = has.bound in
    let some = width_some b w in
    let start : part.element * b + part.from ≡ part.element * b = omega arith in
    record {
      bits = rw (all, start) (whole-set b at w p xs part.element (if bit then 2 ^ b - 1 else 0) bit has.element (element-filled b at p bit));
      long = length-replicate (part.to - part.from) bit;
      elements = length-set xs part.element _;
    }

pub part-flipped : {b : ℕ} {at : ℕ → ℕ → ℕ} → IsWidth b → Permutes b (at b) → (xs : List ℕ) (part : Part) → HasPart b xs part
    → Writes b at xs (slice_set xs part.element (bit_xor (slice_index xs part.element) (mask_of (at b) part.from part.to))) (part_window b part) (map not (list_in b at xs (part_window b part)))
part-flipped {b} {at} w p xs part has =
    let list = part-list b at xs part has.order in
    let whole = length-memory_bits b at xs in
    let inside = element_fits b part.element (length xs) has.element in
    let bound = has.bound in
    let order = has.order in
    let long = length-slice_range (memory_bits b at xs) (part.element * b + part.from) (part.element * b + part.to) (omega arith) in
    rw list (record {
      bits = part-flip b at p xs part.element part.from part.to (width_some b w) has.element has.order has.bound;
      long = length-map (slice_range (memory_bits b at xs) (part.element * b + part.from) (part.element * b + part.to)) not ∙ omega arith;
      elements = length-set xs part.element _;
    })

-- ---- a whole element takes no mask

whole_from : (b from to : ℕ) → to ≤ b → to - from ≡ b → 0 < b → from ≡ 0
whole_from b from to bound all some = omega arith

bit_other : (c d : ℕ) → c < 2 → d + c ≡ 1 → d ≡ (c + 1) % 2
bit_other zero d small sum = omega arith
bit_other (suc zero) d small sum = omega arith
bit_other (suc (suc c)) d small sum = absurd (omega arith)

whole_part : (b from to : ℕ) (at : ℕ → ℕ) → 0 < b → Permutes b at → to ≤ b → to - from ≡ b → 2 ^ b - 1 ≡ mask_of at from to
whole_part b from to at some p bound all =
    let first : from ≡ 0 = whole_from b from to bound all some in
    let last : to ≡ b = omega arith in
    rw (first, last) (mask_of-whole b at p)

pub masked-whole : {b v : ℕ} (from : ℕ) {to : ℕ} {at : ℕ → ℕ} → 0 < b → Permutes b at → v < 2 ^ b → to ≤ b → to - from ≡ b → v ≡ bit_and v (mask_of at from to)
masked-whole {b} {v} from {to} {at} some p small bound all = rw (← whole_part b from to at some p bound all) (sym (and_mask v b ∙ mod-eq_of_lt small))

pub flipped-whole : {b v : ℕ} (from : ℕ) {to : ℕ} {at : ℕ → ℕ} → 0 < b → Permutes b at → v < 2 ^ b → to ≤ b → to - from ≡ b → 2 ^ b - 1 - v ≡ bit_xor v (mask_of at from to)
flipped-whole {b} {v} from {to} {at} some p small bound all =
    rw (← whole_part b from to at some p bound all)
    (let power = pow_pos b in
    same_from_bits_below b _ _ (omega arith) (xor_lt b v (2 ^ b - 1) small (omega arith)) (λ k below.
    let sum = bit_of_complement b v k small below in
    let one = bit_at_ones b k below in
    let bit = bit_at-lt v k in
    bit_other (bit_at v k) (bit_at (2 ^ b - 1 - v) k) bit sum ∙ sym (bit_at_xor v (2 ^ b - 1) k ∙ ap (λ (c : ℕ). (bit_at v k + c) % 2) one)))
