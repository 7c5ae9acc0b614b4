-- The number of a part of an element.
use Rattle.std.specs.Prelude.{◌≡◌, ℕ, ◌+◌, ◌-◌, ◌*◌, ◌/◌, ◌%◌, ◌^◌, ◌<◌, ◌≤◌, ◌==◌, Bool, true, false, List, length, bit_and, slice_range, refl}
use Rattle.std.specs.Int.{bit_at}
use Rattle.std.proofs.Common.{arith, sym, ◌∙◌, ap}
use Rattle.std.proofs.lemmas.List.{same_lists}
use Rattle.std.proofs.lemmas.Nat.{and_mask, div-add-mod', mod_below, pow_pos}
use Rattle.std.proofs.lemmas.Nat.Bits.{bit_at_cat_low, ones_shr}
use Rattle.bitvec_base.specs.Memory.{element_bits}
use Rattle.bitvec_base.specs.MemoryLaws.{get-element_bits, length-element_bits}
use Rattle.bitvec_base.specs.ShiftLaws.{bit_at_shl, bit_at_shr}
use Rattle.bitvec_base.specs.WriteLaws.{get-slice_range, length-slice_range}
use Rattle.bitvec_words.specs.ShortWindow.{lowest_bit}
use Rattle.bitvec_words.specs.MovedLaws.{lowest_bit-fits}
use Rattle.bitvec_words.specs.OrderEnd.{RunsFrom}
use Rattle.bitvec_segments.specs.NumberLaws.{bit_number-below, segment-number-is, segment-told, segment_bits-mod}
use Rattle.bitvec_segments.specs.Segments.{bit_number, segment_bits, segment_number}

-- where the bit of a part stands in its element
part_place : (high : Bool) (b : ℕ) (at : ℕ → ℕ → ℕ) → RunsFrom high b at → (from to i : ℕ) → from + i < to → to ≤ b → bit_number high (to - from) i + lowest_bit high b from (to - from) ≡ at b (from + i)
part_place true b at ends from to i below bound = let place = ends (from + i) (omega arith) in omega arith
part_place false b at ends from to i below bound = let place = ends (from + i) (omega arith) in omega arith

-- the bits of a part, moved down to the least significant ones
part-bits : (high : Bool) (b : ℕ) (at : ℕ → ℕ → ℕ) → RunsFrom high b at → (v from to : ℕ) → from ≤ to → to ≤ b → segment_bits high (to - from) (v / 2 ^ lowest_bit high b from (to - from)) ≡ slice_range (element_bits b at v) from to
part-bits high b at ends v from to order bound =
    let low = lowest_bit high b from (to - from) in
    let whole = length-element_bits b at v in
    let long = length-slice_range (element_bits b at v) from to (omega arith) in
    let wide = length-element_bits (to - from) (bit_number high) (v / 2 ^ low) in
    same_lists _ _ (omega arith) (λ i d below.
    let inside : from + i < to = omega arith in
    get-element_bits (to - from) (bit_number high) (v / 2 ^ low) i d (omega arith)
    ∙ ap (λ (n : ℕ). n == 1) (bit_at_shr v low (bit_number high (to - from) i) ∙ ap (bit_at v) (part_place high b at ends from to i inside bound))
    ∙ sym (get-slice_range (element_bits b at v) from to i d inside ∙ get-element_bits b at v (from + i) d (omega arith)))

-- their number
part-remainder : (high : Bool) (b : ℕ) (at : ℕ → ℕ → ℕ) → RunsFrom high b at → (v from to : ℕ) → from ≤ to → to ≤ b
    → v / 2 ^ lowest_bit high b from (to - from) % 2 ^ (to - from) ≡ segment_number high (slice_range (element_bits b at v) from to)
part-remainder high b at ends v from to order bound =
    let k : ℕ = to - from in
    let moved : ℕ = v / 2 ^ lowest_bit high b from k in
    segment-number-is high k (moved % 2 ^ k) _ (mod_below moved (2 ^ k) (pow_pos k)) (segment_bits-mod high k moved ∙ part-bits high b at ends v from to order bound)

pub part-number : (high : Bool) {b : ℕ} (at : ℕ → ℕ → ℕ) → RunsFrom high b at → (v : ℕ) {from to : ℕ} → from < to → to ≤ b
    → bit_and (v / 2 ^ lowest_bit high b from (to - from)) ((2 ^ b - 1) / 2 ^ (b - (to - from))) ≡ segment_number high (slice_range (element_bits b at v) from to)
part-number high {b} at ends v {from} {to} some bound =
    let k : ℕ = to - from in
    let moved : ℕ = v / 2 ^ lowest_bit high b from k in
    let back : b - (b - k) ≡ k = omega arith in
    let mask : (2 ^ b - 1) / 2 ^ (b - k) ≡ 2 ^ k - 1 = ones_shr b (b - k) (omega arith) ∙ ap (λ (n : ℕ). 2 ^ n - 1) back in
    ap (bit_and moved) mask ∙ and_mask moved k ∙ part-remainder high b at ends v from to (omega arith) bound

-- the number of some bits of a list, by that of all
pub number-range : (high : Bool) (list : List Bool) (from n : ℕ) → from + n ≤ length list → segment_number high list / 2 ^ lowest_bit high (length list) from n % 2 ^ n ≡ segment_number high (slice_range list from (from + n))
number-range high list from n inside =
    let back : from + n - from ≡ n = omega arith in
    ap (λ (m : ℕ). segment_number high list / 2 ^ lowest_bit high (length list) from m % 2 ^ m) (sym back)
    ∙ part-remainder high (length list) (bit_number high) (λ i h. refl) (segment_number high list) from (from + n) (omega arith) inside
    ∙ ap (λ (l : List Bool). segment_number high (slice_range l from (from + n))) (segment-told high list)

-- a bit of a number, cut to the element's width and moved up to the part
moved_bit : (b v low p : ℕ) → p + low < b → bit_at (bit_and v (2 ^ b - 1) * 2 ^ low % 2 ^ b / 2 ^ low) p ≡ bit_at v p
moved_bit b v low p fits =
    bit_at_shr (bit_and v (2 ^ b - 1) * 2 ^ low % 2 ^ b) low p
    ∙ bit_at_shl b (bit_and v (2 ^ b - 1)) low p fits
    ∙ ap (λ (n : ℕ). bit_at n p) (and_mask v b)
    ∙ sym (bit_at_cat_low (v / 2 ^ b) b (v % 2 ^ b) p (omega arith))
    ∙ ap (λ (n : ℕ). bit_at n p) (div-add-mod' v (2 ^ b))

-- the part of an element that such a number has there
pub number-part : (high : Bool) {b : ℕ} (at : ℕ → ℕ → ℕ) → RunsFrom high b at → (v : ℕ) {from to : ℕ} → from < to → to ≤ b
    → slice_range (element_bits b at (bit_and v (2 ^ b - 1) * 2 ^ lowest_bit high b from (to - from) % 2 ^ b)) from to ≡ segment_bits high (to - from) v
number-part high {b} at ends v {from} {to} some bound =
    let k : ℕ = to - from in
    let low = lowest_bit high b from k in
    let moved : ℕ = bit_and v (2 ^ b - 1) * 2 ^ low % 2 ^ b in
    let fits = lowest_bit-fits high b from k (omega arith) in
    let long = length-element_bits k (bit_number high) (moved / 2 ^ low) in
    let wide = length-element_bits k (bit_number high) v in
    sym (part-bits high b at ends moved from to (omega arith) bound)
    ∙ same_lists _ _ (omega arith) (λ i d below.
    let number = bit_number-below high k i (omega arith) in
    get-element_bits k (bit_number high) (moved / 2 ^ low) i d (omega arith)
    ∙ ap (λ (n : ℕ). n == 1) (moved_bit b v low (bit_number high k i) (omega arith))
    ∙ sym (get-element_bits k (bit_number high) v i d (omega arith)))
