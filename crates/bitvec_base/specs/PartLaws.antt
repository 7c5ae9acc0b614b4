-- A part of one element, its bits from the index `from` up to, without, `to`: what a masked read or write of it is to the memory.
use Rattle.std.specs.Prelude.{◌≡◌, ℕ, ◌+◌, ◌-◌, ◌*◌, ◌^◌, ◌<◌, ◌≤◌, ◌==◌, Bool, true, false, not, List, length, map, replicate, count_by, slice_range, slice_set, slice_index, slice_index_or, bit_and, bit_or, bit_xor, count_ones}
use Rattle.std.specs.List.{range_with_len}
use Rattle.std.specs.Int.{bit_at}
use Rattle.std.specs.Int.Bits.{and_zero_l, or_zero_l}
use Rattle.std.proofs.Common.{arith, sym, ◌∙◌, ap}
use Rattle.std.proofs.lemmas.List.{same_lists, length-replicate, get_or-replicate, length-map}
use Rattle.std.proofs.lemmas.List.FromFn.{length-map-range_with_len, get_or-map-range_with_len}
use Rattle.std.proofs.lemmas.Nat.{pow_pos}
use Rattle.std.proofs.lemmas.Nat.Bits.{bit_at_and, bit_at_or, bit_at-lt, bit_at_ones, bit_at-zero}
use Rattle.bitvec_base.specs.Memory.{memory_bits, element_bits}
use Rattle.bitvec_base.specs.Order.{Permutes, mask_of}
use Rattle.bitvec_base.specs.Window.{write_at}
use Rattle.bitvec_base.specs.WriteLaws.{length-slice_range, get-slice_range, write_at-inside, range-range}
use Rattle.bitvec_base.specs.MaskLaws.{mask_of-count, mask_of-is, mask_of-lacks, mask_of-has, mask_of-below}
use Rattle.bitvec_base.specs.MemoryLaws.{length-memory_bits, length-element_bits, get-element_bits, element_fits, element-range, set-element, element-or_mask, element-and_not_mask, element-xor_mask, masked_write, bit_of_complement}

-- a slice of one element is a slice of the memory
pub part-range : (b : ℕ) (at : ℕ → ℕ → ℕ) (xs : List ℕ) (e from to : ℕ) → e < length xs → to ≤ b → slice_range (element_bits b at (slice_index xs e)) from to ≡ slice_range (memory_bits b at xs) (e * b + from) (e * b + to)
part-range b at xs e from to h fits =
    let whole = length-memory_bits b at xs in
    let inside = element_fits b e (length xs) h in
    ap (λ (l : List Bool). slice_range l from to) (sym (element-range b at xs e h))
    ∙ range-range (memory_bits b at xs) (e * b) (e * b + b) from to (omega arith) (omega arith)

-- a write into one element is a write into the memory
pub part-write : (b : ℕ) (at : ℕ → ℕ → ℕ) (xs : List ℕ) (e from to v : ℕ) (new : List Bool) → 0 < b → e < length xs → from ≤ to → to ≤ b → length new ≡ to - from
    → element_bits b at v ≡ write_at (element_bits b at (slice_index xs e)) from new
    → memory_bits b at (slice_set xs e v) ≡ write_at (memory_bits b at xs) (e * b + from) new
part-write b at xs e from to v new some h le fits long wrote =
    let whole = length-memory_bits b at xs in
    let inside = element_fits b e (length xs) h in
    set-element b at xs e v some h
    ∙ ap (λ (l : List Bool). write_at (memory_bits b at xs) (e * b) l) (wrote ∙ ap (λ (l : List Bool). write_at l from new) (sym (element-range b at xs e h)))
    ∙ write_at-inside (memory_bits b at xs) (e * b) (e * b + b) from new (omega arith) (omega arith)

-- all bits of an element set, or none
pub element-all : (b : ℕ) (at : ℕ → ℕ → ℕ) (p : Permutes b (at b)) → element_bits b at (2 ^ b - 1) ≡ replicate b true
element-all b at p =
    let long = length-element_bits b at (2 ^ b - 1) in
    let same = length-replicate b true in
    same_lists _ _ (omega arith) (λ k d inside.
    let below : k < b = omega arith in
    get-element_bits b at (2 ^ b - 1) k d below ∙ ap (λ (c : ℕ). c == 1) (bit_at_ones b (at b k) (p.below k below)) ∙ sym (get_or-replicate b k true d below))

pub element-none : (b : ℕ) (at : ℕ → ℕ → ℕ) → element_bits b at 0 ≡ replicate b false
element-none b at =
    let long = length-element_bits b at 0 in
    let same = length-replicate b false in
    same_lists _ _ (omega arith) (λ k d inside.
    let below : k < b = omega arith in
    get-element_bits b at 0 k d below ∙ ap (λ (c : ℕ). c == 1) (bit_at-zero (at b k)) ∙ sym (get_or-replicate b k false d below))

-- a bit of a part, read in the element
pub part_bit : (b : ℕ) (at : ℕ → ℕ → ℕ) (v from to i : ℕ) → to ≤ b → from ≤ i → i < to → (d : Bool) → slice_index_or (slice_range (element_bits b at v) from to) (i - from) d ≡ (bit_at v (at b i) == 1)
part_bit b at v from to i fits low high d =
    let back : from + (i - from) ≡ i = omega arith in
    get-slice_range (element_bits b at v) from to (i - from) d (omega arith)
    ∙ ap (λ (k : ℕ). slice_index_or (element_bits b at v) k d) back
    ∙ get-element_bits b at v i d (omega arith)

-- The bits of an element at the indices `from..to` are `to - from` bits.
pub length-part : (b : ℕ) (at : ℕ → ℕ → ℕ) (v from to : ℕ) → to ≤ b → length (slice_range (element_bits b at v) from to) ≡ to - from
length-part b at v from to fits =
    let whole = length-element_bits b at v in
    length-slice_range (element_bits b at v) from to (omega arith)

-- an element that takes the mask's bits from w
pub element-combine : (b : ℕ) (at : ℕ → ℕ → ℕ) (p : Permutes b (at b)) (v w from to : ℕ) → from ≤ to → to ≤ b
    → element_bits b at (bit_or (bit_and v (2 ^ b - 1 - mask_of (at b) from to)) (bit_and w (mask_of (at b) from to))) ≡ write_at (element_bits b at v) from (slice_range (element_bits b at w) from to)
element-combine b at p v w from to le fits =
    let m = mask_of (at b) from to in
    let kept = 2 ^ b - 1 - m in
    let bound = mask_of-below b (at b) p from to le fits in
    masked_write b at v (bit_or (bit_and v kept) (bit_and w m)) from to _ le fits (length-part b at w from to fits)
    (λ i low high d.
    let joined = bit_at_or (bit_and v kept) (bit_and w m) (at b i) in
    let old = bit_at_and v kept (at b i) in
    let new = bit_at_and w m (at b i) in
    let one = mask_of-has b (at b) p from to fits i low high in
    let whole = bit_of_complement b m (at b i) bound (p.below i (omega arith)) in
    let small = bit_at-lt w (at b i) in
    let same : bit_at (bit_or (bit_and v kept) (bit_and w m)) (at b i) ≡ bit_at w (at b i) = omega arith in
    ap (λ (c : ℕ). c == 1) same ∙ sym (part_bit b at w from to i fits low high d))
    (λ i below out.
    let joined = bit_at_or (bit_and v kept) (bit_and w m) (at b i) in
    let old = bit_at_and v kept (at b i) in
    let new = bit_at_and w m (at b i) in
    let none = mask_of-lacks b (at b) p from to le fits i below out in
    let whole = bit_of_complement b m (at b i) bound (p.below i below) in
    let small = bit_at-lt v (at b i) in
    omega arith)

-- behind a mask are the part's bits, and 0 elsewhere
pub element-and_mask : (b : ℕ) (at : ℕ → ℕ → ℕ) (p : Permutes b (at b)) (v from to : ℕ) → from ≤ to → to ≤ b → element_bits b at (bit_and v (mask_of (at b) from to)) ≡ write_at (replicate b false) from (slice_range (element_bits b at v) from to)
element-and_mask b at p v from to order fits =
    let mask = mask_of (at b) from to in
    ap (element_bits b at) (sym (ap (λ (n : ℕ). bit_or n (bit_and v mask)) (and_zero_l (2 ^ b - 1 - mask)) ∙ or_zero_l (bit_and v mask)))
    ∙ element-combine b at p 0 v from to order fits ∙ ap (λ (l : List Bool). write_at l from (slice_range (element_bits b at v) from to)) (element-none b at)

-- the masked writes
pub part-set : (b : ℕ) (at : ℕ → ℕ → ℕ) (p : Permutes b (at b)) (xs : List ℕ) (e from to : ℕ) → 0 < b → e < length xs → from ≤ to → to ≤ b → memory_bits b at (slice_set xs e (bit_or (slice_index xs e) (mask_of (at b) from to))) ≡ write_at (memory_bits b at xs) (e * b + from) (replicate (to - from) true)
part-set b at p xs e from to some h le fits =
    part-write b at xs e from to _ _ some h le fits (length-replicate (to - from) true) (element-or_mask b at p (slice_index xs e) from to le fits)

pub part-clear : (b : ℕ) (at : ℕ → ℕ → ℕ) (p : Permutes b (at b)) (xs : List ℕ) (e from to : ℕ) → 0 < b → e < length xs → from ≤ to → to ≤ b → memory_bits b at (slice_set xs e (bit_and (slice_index xs e) (2 ^ b - 1 - mask_of (at b) from to))) ≡ write_at (memory_bits b at xs) (e * b + from) (replicate (to - from) false)
part-clear b at p xs e from to some h le fits =
    part-write b at xs e from to _ _ some h le fits (length-replicate (to - from) false) (element-and_not_mask b at p (slice_index xs e) from to le fits)

pub part-flip : (b : ℕ) (at : ℕ → ℕ → ℕ) (p : Permutes b (at b)) (xs : List ℕ) (e from to : ℕ) → 0 < b → e < length xs → from ≤ to → to ≤ b → memory_bits b at (slice_set xs e (bit_xor (slice_index xs e) (mask_of (at b) from to))) ≡ write_at (memory_bits b at xs) (e * b + from) (map not (slice_range (memory_bits b at xs) (e * b + from) (e * b + to)))
part-flip b at p xs e from to some h le fits =
    let whole = length-element_bits b at (slice_index xs e) in
    let part = length-slice_range (element_bits b at (slice_index xs e)) from to (omega arith) in
    let flipped = length-map (slice_range (element_bits b at (slice_index xs e)) from to) not in
    part-write b at xs e from to _ _ some h le fits (omega arith) (element-xor_mask b at p (slice_index xs e) from to le fits)
    ∙ ap (λ (l : List Bool). write_at (memory_bits b at xs) (e * b + from) (map not l)) (part-range b at xs e from to h fits)

-- the bits of a part, as a list
part-bits : (b : ℕ) (at : ℕ → ℕ → ℕ) (v from to : ℕ) → from ≤ to → to ≤ b → map (λ i. bit_at v (at b i) == 1) (range_with_len from (to - from)) ≡ slice_range (element_bits b at v) from to
part-bits b at v from to le fits =
    let f = λ (i : ℕ). bit_at v (at b i) == 1 in
    let whole = length-element_bits b at v in
    let part = length-slice_range (element_bits b at v) from to (omega arith) in
    let long = length-map-range_with_len f from (to - from) in
    same_lists _ _ (omega arith) (λ k d inside.
    get_or-map-range_with_len f from (to - from) k (from + k) d (omega arith) (omega arith)
    ∙ sym (get-slice_range (element_bits b at v) from to k d (omega arith) ∙ get-element_bits b at v (from + k) d (omega arith)))

-- the ones behind a mask are the ones of the part
pub part-count : (b : ℕ) (at : ℕ → ℕ → ℕ) (p : Permutes b (at b)) (xs : List ℕ) (e from to : ℕ) → e < length xs → from ≤ to → to ≤ b → count_ones (bit_and (slice_index xs e) (mask_of (at b) from to)) ≡ count_by (λ (bit : Bool). bit) (slice_range (memory_bits b at xs) (e * b + from) (e * b + to))
part-count b at p xs e from to h le fits =
    mask_of-count b (at b) p (slice_index xs e) from to le fits
    ∙ ap (λ (l : List Bool). count_by (λ (bit : Bool). bit) l) (part-bits b at (slice_index xs e) from to le fits ∙ part-range b at xs e from to h fits)

-- the mask of a whole element
pub mask_of-whole : (b : ℕ) (at : ℕ → ℕ) (p : Permutes b at) → 2 ^ b - 1 ≡ mask_of at 0 b
mask_of-whole b at p = mask_of-is b at p 0 b (2 ^ b - 1) (omega arith) (omega arith) (let some = pow_pos b in omega arith) (λ i h. bit_at_ones b (at i) (p.below i h) ∙ sym (bit_at_ones b i h))
