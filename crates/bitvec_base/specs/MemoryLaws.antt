-- Elements and the bits of a memory: reads and writes of an element are those of its bits.
use Rattle.std.specs.Prelude.{◌≡◌, ◌≢◌, ℕ, ◌+◌, ◌-◌, ◌*◌, ◌/◌, ◌%◌, ◌^◌, ◌<◌, ◌≤◌, ◌⊎◌, ◌==◌, Bool, true, false, not, List, ◌++◌, length, map, replicate, slice_range, slice_set, slice_index, slice_index_or, bit_and, bit_or, bit_xor, refl, zero, suc}
use Rattle.std.specs.Int.{bit_at}
use Rattle.std.proofs.Common.{arith, sym, ◌∙◌, ap, subst, ⊎_elim, inl, inr, length-append}
use Rattle.std.proofs.Math.Nat.{add-mul, mul-add-mod_self_right, mul-le-mul_right}
use Rattle.std.proofs.lemmas.Bool.{cases_lt, cases_order}
use Rattle.std.proofs.lemmas.List.{same_lists, get_or-set_same, get_or-set_other, length-set, length-replicate, get_or-replicate, length-map, get_or-map}
use Rattle.std.proofs.lemmas.Nat.Bits.{bit_at_and, bit_at_or, bit_at_xor, bit_at-lt, and_pow}
use Rattle.std.proofs.lemmas.List.FromFn.{length-map-range_with_len, get_or-map-range_with_len}
use Rattle.std.proofs.lemmas.Nat.{div_below, mod_below, div-mul-add, mod-mul-add, row_fits, div-add-mod', and-not, pow_below, pow_pos}
use Rattle.bitvec_base.specs.Memory.{place_bit, memory_bits, element_bits}
use Rattle.bitvec_base.specs.Order.{Permutes, mask_of}
use Rattle.bitvec_base.specs.SliceLaws.{range-all, range-join, range-of_front, range-of_rest}
use Rattle.bitvec_base.specs.MaskLaws.{mask_of-lacks, mask_of-has, mask_of-below}
use Rattle.bitvec_base.specs.Window.{IsWithin, write_at}
use Rattle.bitvec_base.specs.declared.window.Window.{Window}
use Rattle.bitvec_base.specs.WriteLaws.{length-slice_range, get-slice_range, length-write_at, get-write_at_below, get-write_at_inside, get-write_at_above}

-- A memory of elements of `b` bits has `b` bits for each element.
pub length-memory_bits : (b : ℕ) (at : ℕ → ℕ → ℕ) (xs : List ℕ) → length (memory_bits b at xs) ≡ b * length xs
unfolding memory_bits
length-memory_bits b at xs = length-map-range_with_len (place_bit b at xs) 0 (b * length xs)

-- The bit at index `j` of the list of a memory's bits is the one at place `j` of the memory.
pub get-memory_bits : (b : ℕ) (at : ℕ → ℕ → ℕ) (xs : List ℕ) (j : ℕ) (d : Bool) → j < b * length xs → slice_index_or (memory_bits b at xs) j d ≡ place_bit b at xs j
unfolding memory_bits
get-memory_bits b at xs j d h = get_or-map-range_with_len (place_bit b at xs) 0 (b * length xs) j j d h (omega arith)

-- An element has `b` bits.
pub length-element_bits : (b : ℕ) (at : ℕ → ℕ → ℕ) (v : ℕ) → length (element_bits b at v) ≡ b
unfolding element_bits
length-element_bits b at v = length-map-range_with_len (λ i. bit_at v (at b i) == 1) 0 b

-- Bit `i` of an element's list of bits is the bit of its number that the order gives to index `i`.
pub get-element_bits : (b : ℕ) (at : ℕ → ℕ → ℕ) (v i : ℕ) (d : Bool) → i < b → slice_index_or (element_bits b at v) i d ≡ (bit_at v (at b i) == 1)
unfolding element_bits
get-element_bits b at v i d h = get_or-map-range_with_len (λ i. bit_at v (at b i) == 1) 0 b i i d h (omega arith)

-- The bit at place `e * b + i` of a memory is the one at index `i` of element `e`.
pub place_bit-element : (b : ℕ) (at : ℕ → ℕ → ℕ) (xs : List ℕ) (e i : ℕ) → i < b → place_bit b at xs (e * b + i) ≡ (bit_at (slice_index xs e) (at b i) == 1)
unfolding place_bit
place_bit-element b at xs e i h = rw (div-mul-add e b i h, mod-mul-add e b i h) refl

-- each place is one of an element
place_parts : (b k : ℕ) → 0 < b → k / b * b + k % b ≡ k
place_parts b k some = div-add-mod' k b

-- The places of element `e` of `n` elements of `b` bits end at or before `b * n`.
pub element_fits : (b e n : ℕ) → e < n → e * b + b ≤ b * n
element_fits b e n h = let fits = row_fits e b n b h (omega arith) in omega arith

-- The bits of element `e` are the range `e * b..e * b + b` of the memory's bits.
pub element-range : (b : ℕ) (at : ℕ → ℕ → ℕ) (xs : List ℕ) (e : ℕ) → e < length xs → slice_range (memory_bits b at xs) (e * b) (e * b + b) ≡ element_bits b at (slice_index xs e)
element-range b at xs e h =
    let whole = length-memory_bits b at xs in
    let fits = element_fits b e (length xs) h in
    let inner = length-element_bits b at (slice_index xs e) in
    let outer = length-slice_range (memory_bits b at xs) (e * b) (e * b + b) (omega arith) in
    same_lists _ _ (omega arith) (λ k d inside.
    let below : k < b = omega arith in
    get-slice_range (memory_bits b at xs) (e * b) (e * b + b) k d (omega arith)
    ∙ get-memory_bits b at xs (e * b + k) d (omega arith)
    ∙ place_bit-element b at xs e k below
    ∙ sym (get-element_bits b at (slice_index xs e) k d below))

-- The bits of the elements `a..e` are the range `a * b..e * b` of the memory's bits.
pub memory-range : (b : ℕ) (at : ℕ → ℕ → ℕ) (xs : List ℕ) (a e : ℕ) → 0 < b → a ≤ e → e ≤ length xs → memory_bits b at (slice_range xs a e) ≡ slice_range (memory_bits b at xs) (a * b) (e * b)
unfolding place_bit
memory-range b at xs a e some order fits =
    let whole = length-memory_bits b at xs in
    let inner = length-memory_bits b at (slice_range xs a e) in
    let count = ap (λ (n : ℕ). b * n) (length-slice_range xs a e fits) in
    let rows = mul-le-mul_right {m = e} {n = length xs} b fits in
    let spread = add-mul a (e - a) b in
    let ends = ap (λ (n : ℕ). n * b) (let sum : a + (e - a) ≡ e = omega arith in sum) in
    let outer = length-slice_range (memory_bits b at xs) (a * b) (e * b) (omega arith) in
    same_lists _ _ (omega arith) (λ k d inside.
    let place = div-add-mod' k b in
    let index = mod_below k b some in
    let spread-row = add-mul a (k / b) b in
    let at-row : (a * b + k) / b ≡ a + k / b = ap (λ (n : ℕ). n / b) (let sum : a * b + k ≡ (a + k / b) * b + k % b = omega arith in sum) ∙ div-mul-add (a + k / b) b (k % b) index in
    let element = get-slice_range xs a e (k / b) 0 (let row = div_below k b (e - a) some (omega arith) in omega arith) in
    get-memory_bits b at (slice_range xs a e) k d (omega arith)
    ∙ sym (get-slice_range (memory_bits b at xs) (a * b) (e * b) k d (omega arith) ∙ get-memory_bits b at xs (a * b + k) d (omega arith) ∙ rw (at-row, mul-add-mod_self_right a b k, sym element) refl))

-- The bits of two joined lists of elements are the bits of the first, and then those of the second.
pub memory-append : (b : ℕ) (at : ℕ → ℕ → ℕ) (front rest : List ℕ) → 0 < b → memory_bits b at (front ++ rest) ≡ memory_bits b at front ++ memory_bits b at rest
memory-append b at front rest some =
    let all = front ++ rest in
    let m = length front in
    let n = length all in
    let sum = length-append front rest in
    let whole = length-memory_bits b at all in
    let product : n * b ≡ b * n = omega arith in
    sym (
    ap (λ (l : List Bool). l ++ memory_bits b at rest) (ap (memory_bits b at) (sym (range-of_front front rest)) ∙ memory-range b at all 0 m some (omega arith) (omega arith))
    ∙ ap (λ (l : List Bool). slice_range (memory_bits b at all) (0 * b) (m * b) ++ l) (ap (memory_bits b at) (sym (range-of_rest front rest)) ∙ memory-range b at all m n some (omega arith) (omega arith))
    ∙ range-join (memory_bits b at all) (0 * b) (m * b) (n * b) (omega arith) (rw sum (omega arith)) (omega arith)
    ∙ ap (λ (s : ℕ). slice_range (memory_bits b at all) s (n * b)) (let first : 0 * b ≡ 0 = omega arith in first)
    ∙ range-all (memory_bits b at all) (n * b) (omega arith))

-- a place after an element was replaced
set-element_at : (b : ℕ) (at : ℕ → ℕ → ℕ) (xs : List ℕ) (e v : ℕ) → e < length xs → (q r : ℕ) (d : Bool) → r < b → q < length xs → place_bit b at (slice_set xs e v) (q * b + r) ≡ slice_index_or (write_at (memory_bits b at xs) (e * b) (element_bits b at v)) (q * b + r) d
set-element_at b at xs e v h q r d low high =
    let whole = length-memory_bits b at xs in
    let fits = element_fits b e (length xs) h in
    let inner = length-element_bits b at v in
    let inside = element_fits b q (length xs) high in
    place_bit-element b at (slice_set xs e v) q r low
    ∙ ⊎_elim
    (λ same. rw same (rw (get_or-set_same xs e v 0 h)
    (sym (get-write_at_inside (memory_bits b at xs) (e * b) (element_bits b at v) (e * b + r) d (omega arith) (omega arith) (omega arith)
    ∙ ap (λ (i : ℕ). slice_index_or (element_bits b at v) i d) (let back : e * b + r - e * b ≡ r = omega arith in back)
    ∙ get-element_bits b at v r d low))))
    (⊎_elim
    (λ before. let apart : q ≢ e = omega arith in let gap = row_fits q b e b before (omega arith) in
    rw (get_or-set_other xs e q v 0 apart)
    (sym (get-write_at_below (memory_bits b at xs) (e * b) (element_bits b at v) (q * b + r) d (omega arith) (omega arith)
    ∙ get-memory_bits b at xs (q * b + r) d (omega arith)
    ∙ place_bit-element b at xs q r low)))
    (λ after. let apart : q ≢ e = omega arith in let gap = row_fits e b q b after (omega arith) in
    rw (get_or-set_other xs e q v 0 apart)
    (sym (get-write_at_above (memory_bits b at xs) (e * b) (element_bits b at v) (q * b + r) d (omega arith) (omega arith)
    ∙ get-memory_bits b at xs (q * b + r) d (omega arith)
    ∙ place_bit-element b at xs q r low))))
    (cases_order q e)

-- A write of the number `v` to element `e` is a write of the bits of `v` from place `e * b` on.
pub set-element : (b : ℕ) (at : ℕ → ℕ → ℕ) (xs : List ℕ) (e v : ℕ) → 0 < b → e < length xs → memory_bits b at (slice_set xs e v) ≡ write_at (memory_bits b at xs) (e * b) (element_bits b at v)
set-element b at xs e v some h =
    let whole = length-memory_bits b at xs in
    let kept = length-set xs e v in
    let changed = length-memory_bits b at (slice_set xs e v) in
    let product = ap (λ (n : ℕ). b * n) kept in
    let fits = element_fits b e (length xs) h in
    let inner = length-element_bits b at v in
    let written = length-write_at (memory_bits b at xs) (e * b) (element_bits b at v) (omega arith) in
    same_lists _ _ (omega arith) (λ k d inside.
    let in-memory : k < b * length (slice_set xs e v) = omega arith in
    let in-old : k < length xs * b = omega arith in
    get-memory_bits b at (slice_set xs e v) k d in-memory
    ∙ subst (λ (j : ℕ). place_bit b at (slice_set xs e v) j ≡ slice_index_or (write_at (memory_bits b at xs) (e * b) (element_bits b at v)) j d)
    (place_parts b k some)
    (set-element_at b at xs e v h (k / b) (k % b) d (mod_below k b some) (div_below k b (length xs) some in-old)))

-- ---- an element's bits behind a mask

-- A number with new bits at the indices `from..to` and the bits of `v` elsewhere is `v` with the new bits written there.
pub masked_write : (b : ℕ) (at : ℕ → ℕ → ℕ) (v changed from to : ℕ) (new : List Bool) → from ≤ to → to ≤ b → length new ≡ to - from
    → ((i : ℕ) → from ≤ i → i < to → (d : Bool) → (bit_at changed (at b i) == 1) ≡ slice_index_or new (i - from) d)
    → ((i : ℕ) → i < b → (i < from) ⊎ (to ≤ i) → bit_at changed (at b i) ≡ bit_at v (at b i))
    → element_bits b at changed ≡ write_at (element_bits b at v) from new
masked_write b at v changed from to new le fits long within without =
    let old-length = length-element_bits b at v in
    let new-length = length-element_bits b at changed in
    let written = length-write_at (element_bits b at v) from new (omega arith) in
    same_lists _ _ (omega arith) (λ k d inside.
    let below : k < b = omega arith in
    get-element_bits b at changed k d below ∙
    ⊎_elim
    (λ before. ap (λ (c : ℕ). c == 1) (without k below (inl before)) ∙ sym (get-write_at_below (element_bits b at v) from new k d (omega arith) before ∙ get-element_bits b at v k d below))
    (λ low. ⊎_elim
    (λ high. within k low high d ∙ sym (get-write_at_inside (element_bits b at v) from new k d (omega arith) low (omega arith)))
    (λ after. ap (λ (c : ℕ). c == 1) (without k below (inr after)) ∙ sym (get-write_at_above (element_bits b at v) from new k d (omega arith) (omega arith) ∙ get-element_bits b at v k d below))
    (cases_lt k to))
    (cases_lt k from))

-- An `or` with the mask of the indices `from..to` sets the element's bits there, and leaves the others.
pub element-or_mask : (b : ℕ) (at : ℕ → ℕ → ℕ) (p : Permutes b (at b)) (v from to : ℕ) → from ≤ to → to ≤ b → element_bits b at (bit_or v (mask_of (at b) from to)) ≡ write_at (element_bits b at v) from (replicate (to - from) true)
element-or_mask b at p v from to le fits =
    let m = mask_of (at b) from to in
    masked_write b at v (bit_or v m) from to _ le fits (length-replicate (to - from) true)
    (λ i low high d.
    let joined = bit_at_or v m (at b i) in
    let one = mask_of-has b (at b) p from to fits i low high in
    let small = bit_at-lt v (at b i) in
    let is-one : bit_at (bit_or v m) (at b i) ≡ 1 = omega arith in
    ap (λ (c : ℕ). c == 1) is-one ∙ sym (get_or-replicate (to - from) (i - from) true d (omega arith)))
    (λ i below out.
    let joined = bit_at_or v m (at b i) in
    let none = mask_of-lacks b (at b) p from to le fits i below out in
    omega arith)

-- two bits whose weights add up to one weight
single_sum : (c d w : ℕ) → c < 2 → d < 2 → 0 < w → c * w + d * w ≡ w → c + d ≡ 1
single_sum zero zero w hc hd some e = absurd (omega arith)
single_sum zero (suc zero) w hc hd some e = refl
single_sum (suc zero) zero w hc hd some e = refl
single_sum (suc zero) (suc zero) w hc hd some e = absurd (omega arith)
single_sum zero (suc (suc d)) w hc hd some e = absurd (omega arith)
single_sum (suc zero) (suc (suc d)) w hc hd some e = absurd (omega arith)
single_sum (suc (suc c)) d w hc hd some e = absurd (omega arith)

-- Bit `k` of a number and bit `k` of its complement in `b` bits add up to 1.
pub bit_of_complement : (b m k : ℕ) → m < 2 ^ b → k < b → bit_at (2 ^ b - 1 - m) k + bit_at m k ≡ 1
bit_of_complement b m k small below =
    let power = pow_below k b below in
    let sum = and-not b m (2 ^ k) small power in
    let left = and_pow (2 ^ b - 1 - m) k in
    let right = and_pow m k in
    single_sum (bit_at (2 ^ b - 1 - m) k) (bit_at m k) (2 ^ k) (bit_at-lt (2 ^ b - 1 - m) k) (bit_at-lt m k) (pow_pos k) (omega arith)

-- An `and` with the complement of the mask of the indices `from..to` clears the element's bits there, and leaves the others.
pub element-and_not_mask : (b : ℕ) (at : ℕ → ℕ → ℕ) (p : Permutes b (at b)) (v from to : ℕ) → from ≤ to → to ≤ b → element_bits b at (bit_and v (2 ^ b - 1 - mask_of (at b) from to)) ≡ write_at (element_bits b at v) from (replicate (to - from) false)
element-and_not_mask b at p v from to le fits =
    let m = mask_of (at b) from to in
    let kept = 2 ^ b - 1 - m in
    let bound = mask_of-below b (at b) p from to le fits in
    masked_write b at v (bit_and v kept) from to _ le fits (length-replicate (to - from) false)
    (λ i low high d.
    let met = bit_at_and v kept (at b i) in
    let one = mask_of-has b (at b) p from to fits i low high in
    let whole = bit_of_complement b m (at b i) bound (p.below i (omega arith)) in
    let is-zero : bit_at (bit_and v kept) (at b i) ≡ 0 = omega arith in
    ap (λ (c : ℕ). c == 1) is-zero ∙ sym (get_or-replicate (to - from) (i - from) false d (omega arith)))
    (λ i below out.
    let met = bit_at_and v kept (at b i) in
    let none = mask_of-lacks b (at b) p from to le fits i below out in
    let whole = bit_of_complement b m (at b i) bound (p.below i below) in
    let small = bit_at-lt v (at b i) in
    omega arith)

-- a bit, flipped
flipped_bit : (c : ℕ) → c < 2 → ((c + 1) % 2 == 1) ≡ not (c == 1)
flipped_bit zero h = refl
flipped_bit (suc zero) h = refl
flipped_bit (suc (suc c)) h = absurd (omega arith)

-- A `xor` with the mask of the indices `from..to` flips the element's bits there, and leaves the others.
pub element-xor_mask : (b : ℕ) (at : ℕ → ℕ → ℕ) (p : Permutes b (at b)) (v from to : ℕ) → from ≤ to → to ≤ b → element_bits b at (bit_xor v (mask_of (at b) from to)) ≡ write_at (element_bits b at v) from (map not (slice_range (element_bits b at v) from to))
element-xor_mask b at p v from to le fits =
    let m = mask_of (at b) from to in
    let whole = length-element_bits b at v in
    let part = length-slice_range (element_bits b at v) from to (omega arith) in
    let long = length-map (slice_range (element_bits b at v) from to) not in
    masked_write b at v (bit_xor v m) from to _ le fits (omega arith)
    (λ i low high d.
    let one = mask_of-has b (at b) p from to fits i low high in
    let back : from + (i - from) ≡ i = omega arith in
    ap (λ (c : ℕ). c == 1) (bit_at_xor v m (at b i) ∙ ap (λ (c : ℕ). (bit_at v (at b i) + c) % 2) one)
    ∙ flipped_bit (bit_at v (at b i)) (bit_at-lt v (at b i))
    ∙ sym (get_or-map not (slice_range (element_bits b at v) from to) (i - from) d d (omega arith)
    ∙ ap not (get-slice_range (element_bits b at v) from to (i - from) d (omega arith)
    ∙ ap (λ (k : ℕ). slice_index_or (element_bits b at v) k d) back
    ∙ get-element_bits b at v i d (omega arith))))
    (λ i below out.
    let none = mask_of-lacks b (at b) p from to le fits i below out in
    let small = bit_at-lt v (at b i) in
    bit_at_xor v m (at b i) ∙ ap (λ (c : ℕ). (bit_at v (at b i) + c) % 2) none ∙ (let still : (bit_at v (at b i) + 0) % 2 ≡ bit_at v (at b i) = omega arith in still))

-- A window that lies in a memory lies in the list of the memory's bits.
pub within-bits : (b : ℕ) (at : ℕ → ℕ → ℕ) (xs : List ℕ) (window : Window) → IsWithin window (b * length xs) → IsWithin window (length (memory_bits b at xs))
within-bits b at xs window within = subst (IsWithin window) (sym (length-memory_bits b at xs)) within
