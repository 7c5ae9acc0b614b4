-- Numbers of segments: how great they are, and how they and their bits tell each other.
use Rattle.std.specs.Prelude.{◌≡◌, ℕ, ◌+◌, ◌-◌, ◌*◌, ◌/◌, ◌%◌, ◌^◌, ◌<◌, ◌==◌, if◌then◌else◌, Bool, true, false, List, [], ◌∷◌, length, slice_index_or, refl, zero, suc}
use Rattle.std.specs.Int.{bit_at}
use Rattle.std.proofs.Common.{arith, sym, ◌∙◌, ap}
use Rattle.std.proofs.lemmas.List.{same_lists}
use Rattle.std.proofs.lemmas.Nat.{div-add-mod', mod_below, pow-add, pow_pos}
use Rattle.std.proofs.Math.Nat.{mod-eq_of_lt}
use Rattle.std.proofs.lemmas.Nat.Bits.{bit_at_cat_high, bit_at_cat_low}
use Rattle.bitvec_base.specs.BitsFixMemory.{element_bits-fix}
use Rattle.bitvec_base.specs.MemoryLaws.{length-element_bits, get-element_bits}
use Rattle.bitvec_base.specs.Order.{Permutes}
use Rattle.bitvec_segments.specs.Segments.{bit_number, segment_bits, segment_number}

-- ---- one segment

bit_below : (bit : Bool) → (if bit then 1 else 0) < 2 ^ 1
bit_below true = omega arith
bit_below false = omega arith

highest_below : (bit : Bool) (n v : ℕ) → v < 2 ^ n → (if bit then 1 else 0) * 2 ^ n + v < 2 ^ suc n
highest_below true n v below = let twice = pow-add 2 n 1 in omega arith
highest_below false n v below = let twice = pow-add 2 n 1 in omega arith

below_twice : (n v c : ℕ) → v < 2 ^ n → c < 2 ^ 1 → v * 2 + c < 2 ^ suc n
below_twice n v c below one = let twice = pow-add 2 n 1 in omega arith

-- The number of a segment of `n` bits is below `2^n`.
pub segment_number-below : (high : Bool) (list : List Bool) → segment_number high list < 2 ^ length list
unfolding segment_number
segment_number-below false [] = omega arith
segment_number-below true [] = omega arith
segment_number-below false (bit ∷ rest) =
    let below = segment_number-below false rest in
    let one = bit_below bit in
    below_twice (length rest) (segment_number false rest) (if bit then 1 else 0) below one
segment_number-below true (bit ∷ rest) = highest_below bit (length rest) (segment_number true rest) (segment_number-below true rest)

bit_alone : (bit : Bool) → bit_at (if bit then 1 else 0) 0 ≡ (if bit then 1 else 0)
bit_alone true = refl
bit_alone false = refl

-- each of its bits
number_bit : (high : Bool) (list : List Bool) (i : ℕ) (d : Bool) → i < length list → bit_at (segment_number high list) (bit_number high (length list) i) ≡ (if slice_index_or list i d then 1 else 0)
unfolding segment_number
number_bit high [] i d below = absurd (omega arith)
number_bit false (bit ∷ rest) zero d below = bit_at_cat_low (segment_number false rest) 1 (if bit then 1 else 0) 0 (omega arith) ∙ bit_alone bit
number_bit false (bit ∷ rest) (suc i) d below =
    let place : suc i - 1 ≡ i = omega arith in
    bit_at_cat_high (segment_number false rest) 1 (if bit then 1 else 0) (suc i) (bit_below bit) (omega arith)
    ∙ ap (bit_at (segment_number false rest)) place
    ∙ number_bit false rest i d (omega arith)
number_bit true (bit ∷ rest) zero d below =
    let first : length (bit ∷ rest) - 1 - 0 ≡ length rest = omega arith in
    let none : length rest - length rest ≡ 0 = omega arith in
    ap (bit_at (segment_number true (bit ∷ rest))) first
    ∙ bit_at_cat_high (if bit then 1 else 0) (length rest) (segment_number true rest) (length rest) (segment_number-below true rest) (omega arith)
    ∙ ap (bit_at (if bit then 1 else 0)) none
    ∙ bit_alone bit
number_bit true (bit ∷ rest) (suc i) d below =
    let place : length (bit ∷ rest) - 1 - suc i ≡ length rest - 1 - i = omega arith in
    ap (bit_at (segment_number true (bit ∷ rest))) place
    ∙ bit_at_cat_low (if bit then 1 else 0) (length rest) (segment_number true rest) (length rest - 1 - i) (omega arith)
    ∙ number_bit true rest i d (omega arith)

bit_told : (bit : Bool) → ((if bit then 1 else 0) == 1) ≡ bit
bit_told true = refl
bit_told false = refl

-- The bits of a segment's number are the segment.
pub segment-told : (high : Bool) (list : List Bool) → segment_bits high (length list) (segment_number high list) ≡ list
segment-told high list =
    let long = length-element_bits (length list) (bit_number high) (segment_number high list) in
    same_lists _ _ long (λ i d below.
    get-element_bits (length list) (bit_number high) (segment_number high list) i d (omega arith)
    ∙ ap (λ (n : ℕ). n == 1) (number_bit high list i d (omega arith))
    ∙ bit_told (slice_index_or list i d))

bit_numbers-permute : (high : Bool) (k : ℕ) → Permutes k (bit_number high k)
bit_numbers-permute true k = record { below = λ i below. omega arith; apart = λ i j first second same. omega arith }
bit_numbers-permute false k = record { below = λ i below. below; apart = λ i j first second same. same }

-- The place of a bit in a number of `k` bits is below `k`.
pub bit_number-below : (high : Bool) (k i : ℕ) → i < k → bit_number high k i < k
bit_number-below high k i below = (bit_numbers-permute high k).below i below

-- The `k` bits of a number are those of its remainder by `2^k`.
pub segment_bits-mod : (high : Bool) (k v : ℕ) → segment_bits high k (v % 2 ^ k) ≡ segment_bits high k v
segment_bits-mod high k v =
    let long = length-element_bits k (bit_number high) v in
    let low = length-element_bits k (bit_number high) (v % 2 ^ k) in
    same_lists _ _ (omega arith) (λ i d below.
    let p : ℕ = bit_number high k i in
    get-element_bits k (bit_number high) (v % 2 ^ k) i d (omega arith)
    ∙ ap (λ (n : ℕ). n == 1)
    (sym (bit_at_cat_low (v / 2 ^ k) k (v % 2 ^ k) p (bit_number-below high k i (omega arith)))
    ∙ ap (λ (n : ℕ). bit_at n p) (div-add-mod' v (2 ^ k)))
    ∙ sym (get-element_bits k (bit_number high) v i d (omega arith)))

-- The number of the segment that a number's `k` bits make is the number's remainder by `2^k`.
pub segment-number : (high : Bool) (k v : ℕ) → segment_number high (segment_bits high k v) ≡ v % 2 ^ k
segment-number high k v =
    let long = length-element_bits k (bit_number high) v in
    let below = rw long at (segment_number-below high (segment_bits high k v)) in
    let told = rw long at (segment-told high (segment_bits high k v)) in
    element_bits-fix k (bit_number high) (bit_numbers-permute high k) _ _ below (mod_below v (2 ^ k) (pow_pos k))
    (told ∙ sym (segment_bits-mod high k v))

-- A number below `2^k` is the number of the segment that its `k` bits make.
pub segment-number-is : (high : Bool) (k v : ℕ) (list : List Bool) → v < 2 ^ k → segment_bits high k v ≡ list → v ≡ segment_number high list
segment-number-is high k v list below is = sym (mod-eq_of_lt below) ∙ sym (segment-number high k v) ∙ ap (segment_number high) is
