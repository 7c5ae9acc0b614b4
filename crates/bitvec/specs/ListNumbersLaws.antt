-- Lists of bits as numbers: of one bit more, of a front and the bit behind it, of two that begin alike; a number's own bits; what is left
-- of a list, and the number that it begins with; a write at its first place; and a bit set in a range.
use Rattle.std.specs.Prelude.{◌≡◌, ℕ, ◌+◌, ◌-◌, ◌*◌, ◌/◌, ◌^◌, ◌<◌, ◌≤◌, if◌then◌else◌, Bool, false, true, List, [], ◌∷◌, ◌++◌, drop, length, refl, slice_index_or, slice_range, slice_set, take}
use Rattle.std.proofs.Common.{arith, sym, ◌∙◌, ap, length-take}
use Rattle.std.proofs.Math.Nat.{mod-eq_of_lt}
use Rattle.std.proofs.Math.Pow.{pow_mono}
use Rattle.std.proofs.lemmas.List.{drop-drop, length-append, length-drop, take-append-drop, take-append-le, take_at, take_more}
use Rattle.std.proofs.lemmas.Nat.{div-mul-add}
use Rattle.std.proofs.lemmas.Slice.{between_to_end}
use Rattle.bitvec_base.specs.Window.{write_at}
use Rattle.bitvec_base.specs.WriteLaws.{length-slice_range}
use Rattle.bitvec_segments.specs.NumberLaws.{segment-number, segment-told, segment_number-below}
use Rattle.bitvec_segments.specs.PlainLaws.{append-highest}
use Rattle.bitvec_segments.specs.Segments.{segment_bits, segment_number}
use Rattle.bitvec_segments.specs.StoreLaws.{front-dropped, front-taken, length-segment_bits}
use Rattle.bitvec_in_place.specs.FrontLaws.{range-set_inside}
use Rattle.bitvec_in_place.specs.Ranges.{bits_in, number_in}
use Rattle.bitvec.specs.SeamlessLaws.{number-seamless}

-- ---- the first bit the highest

one_bit : (bit : Bool) → segment_number true (bit ∷ []) ≡ (if bit then 1 else 0)
unfolding segment_number
one_bit true = refl
one_bit false = refl

-- With one bit more at its end, a list whose first bit is the highest has twice its number, plus the bit.
pub segment-push : (list : List Bool) (bit : Bool) → segment_number true (list ++ bit ∷ []) ≡ segment_number true list * 2 + (if bit then 1 else 0)
segment-push list bit = let one = one_bit bit in append-highest list (bit ∷ []) ∙ ap (λ (n : ℕ). segment_number true list * 2 + n) one

-- The first `n + 1` bits, the first the highest, have twice the number of the first `n`, plus the bit at `n`.
pub segment-front : (list : List Bool) (n : ℕ) → n < length list → segment_number true (take (n + 1) list) ≡ segment_number true (take n list) * 2 + (if slice_index_or list n false then 1 else 0)
segment-front list n inside = ap (segment_number true) (take_more list n false inside) ∙ segment-push (take n list) (slice_index_or list n false)

-- Of two lists with which one list begins, the first bit the highest, the shorter has the longer's number divided by two to the
-- power of how many bits more the longer has.
pub segment-begins : (short long xs ys : List Bool) → short ++ xs ≡ long ++ ys → length short ≤ length long → segment_number true short ≡ segment_number true long / 2 ^ (length long - length short)
segment-begins short long xs ys same less =
    let n : ℕ = length short in
    let begins : short ≡ take n long =
    sym (take_at short xs n refl) ∙ ap (λ (l : List Bool). take n l) same ∙ take-append-le n long ys less in
    let rest : List Bool = drop n long in
    let cut : short ++ rest ≡ long = ap (λ (l : List Bool). l ++ rest) begins ∙ take-append-drop n long in
    let more : length rest ≡ length long - n = length-drop n long in
    let small : segment_number true rest < 2 ^ (length long - n) = rw more at (segment_number-below true rest) in
    sym (ap (λ (v : ℕ). v / 2 ^ (length long - n))
    (ap (segment_number true) (sym cut) ∙ append-highest short rest ∙ ap (λ (k : ℕ). segment_number true short * 2 ^ k + segment_number true rest) more)
    ∙ div-mul-add (segment_number true short) (2 ^ (length long - n)) (segment_number true rest) small)

-- ---- the bits of a number, and more

-- A number below `2^n` is that of its `n` bits.
pub segment-kept : (high : Bool) (n v : ℕ) → v < 2 ^ n → segment_number high (segment_bits high n v) ≡ v
segment-kept high n v small = segment-number high n v ∙ mod-eq_of_lt small

-- The `n` bits of a number with which a list begins are its first `n` bits.
pub segment-taken : (high : Bool) (n v : ℕ) (rest : List Bool) → take n (segment_bits high n v ++ rest) ≡ segment_bits high n v
segment-taken high n v rest = front-taken rest (length-segment_bits high n v)

-- Behind the `n` bits of a number with which a list begins stands the rest.
pub segment-dropped : (high : Bool) (n v : ℕ) (rest : List Bool) → drop n (segment_bits high n v ++ rest) ≡ rest
segment-dropped high n v rest = front-dropped (segment_bits high n v) (length-segment_bits high n v)

-- Of a list that begins with the `m` bits of a number below `2^m`, the highest first, the first `n` bits have this number divided by two
-- to the power of how many of the `m` bits they leave.
pub segment-shorter : (n m v : ℕ) (rest : List Bool) → n ≤ m → v < 2 ^ m → segment_number true (take n (segment_bits true m v ++ rest)) ≡ v / 2 ^ (m - n)
segment-shorter n m v rest few small =
    let bits : List Bool = segment_bits true m v in
    let many : length bits ≡ m = length-segment_bits true m v in
    let total = length-append bits rest in
    let front = length-take n (bits ++ rest) in
    let left : length bits - length (take n (bits ++ rest)) ≡ m - n = omega arith in
    segment-begins (take n (bits ++ rest)) bits (drop n (bits ++ rest)) rest (take-append-drop n (bits ++ rest)) (omega arith)
    ∙ ap (λ (k : ℕ). segment_number true bits / 2 ^ k) left ∙ ap (λ (w : ℕ). w / 2 ^ (m - n)) (segment-kept true m v small)

-- The first `i` bits of a list have a number below `2^n`, where `i` is at most `n`.
pub taken-below : (high : Bool) (list : List Bool) (i n : ℕ) → i ≤ n → segment_number high (take i list) < 2 ^ n
taken-below high list i n few =
    let below = segment_number-below high (take i list) in
    let long = length-take i list in
    let more = pow_mono {i = length (take i list)} {j = n} (omega arith) in
    omega arith

module _ (high : Bool) (list : List Bool) (i : ℕ) where
  -- Twice the number of fewer than 8 bits has room for one more bit below `2^8`.
  pub taken-below_8 : i < 8 → segment_number high (take i list) < 128
  taken-below_8 few = taken-below high list i 7 (omega arith)

  -- Twice the number of fewer than 16 bits has room for one more bit below `2^16`.
  pub taken-below_16 : i < 16 → segment_number high (take i list) < 32768
  taken-below_16 few = taken-below high list i 15 (omega arith)

  -- Twice the number of fewer than 32 bits has room for one more bit below `2^32`.
  pub taken-below_32 : i < 32 → segment_number high (take i list) < 2147483648
  taken-below_32 few = taken-below high list i 31 (omega arith)

  -- Twice the number of fewer than 64 bits has room for one more bit below `2^64`.
  pub taken-below_64 : i < 64 → segment_number high (take i list) < 9223372036854775808
  taken-below_64 few = taken-below high list i 63 (omega arith)

-- ---- what is left of a list

-- From the first place on all of a list is left.
pub left-whole : {X : Type 0} (list : List X) (from : ℕ) → from ≡ 0 → drop from list ≡ list
left-whole list from first = rw first refl

-- What is left behind `n` more bits is what is left without its first `n`.
pub left-passed : {X : Type 0} (list : List X) (from n : ℕ) → drop (from + n) list ≡ drop n (drop from list)
left-passed list from n = sym (drop-drop n from list)

-- A range that goes up to the end of a list is what is left of it from the range's start on.
pub range-rest : {X : Type 0} (list : List X) (from to : ℕ) → length list ≤ to → slice_range list from to ≡ drop from list
range-rest list from to end = between_to_end list from to end

-- The bits of a range that goes up to the end of a list are what is left of it from the range's start on.
pub bits_in-rest : (list : List Bool) (from to : ℕ) → length list ≤ to → bits_in list from to ≡ drop from list
unfolding bits_in
bits_in-rest list from to end = between_to_end list from to end

first_left : (list : List Bool) (from n : ℕ) → slice_range list from (from + n) ≡ take n (drop from list)
first_left list from n = let same : from + n - from ≡ n = omega arith in ap (λ (k : ℕ). take k (drop from list)) same

-- The number of the `n` bits from a place on, from the order's own end, has the bits with which what is left of the list begins.
pub left-told : (high : Bool) (b : ℕ) (list : List Bool) (from n : ℕ) → from + n ≤ length list → segment_bits high n (number_in high high b list from (from + n)) ≡ take n (drop from list)
left-told high b list from n inside =
    let long : length (slice_range list from (from + n)) ≡ n = length-slice_range list from (from + n) inside ∙ omega arith in
    ap (segment_bits high n) (number-seamless high b list from (from + n))
    ∙ ap (λ (k : ℕ). segment_bits high k (segment_number high (slice_range list from (from + n)))) (sym long)
    ∙ segment-told high (slice_range list from (from + n)) ∙ first_left list from n

-- The number of the `n` bits from a place on, from the order's own end, is that of the first `n` bits of what is left.
pub number-left : (high : Bool) (b : ℕ) (list : List Bool) (from n : ℕ) → number_in high high b list from (from + n) ≡ segment_number high (take n (drop from list))
number-left high b list from n = number-seamless high b list from (from + n) ∙ ap (segment_number high) (first_left list from n)

-- Where what is left of a list begins with the `n` bits of a number below `2^n`, that is the number of the `n` bits from there on.
pub left-number : (high : Bool) (b : ℕ) (list : List Bool) (from n v : ℕ) → v < 2 ^ n → take n (drop from list) ≡ segment_bits high n v → number_in high high b list from (from + n) ≡ v
left-number high b list from n v small begins =
    number-seamless high b list from (from + n) ∙ ap (segment_number high) (first_left list from n ∙ begins) ∙ segment-number high n v ∙ mod-eq_of_lt small

-- Where what is left of a list begins with the bits of a number, they lie in the list.
pub left-fits : (high : Bool) (list : List Bool) (from n v : ℕ) → 0 < n → take n (drop from list) ≡ segment_bits high n v → from + n ≤ length list
left-fits high list from n v some begins =
    let long = ap length begins in
    let first = length-take n (drop from list) in
    let rest = length-drop from list in
    let bits = length-segment_bits high n v in
    omega (arith, long, first, rest, bits)

-- A list written at the first place has what was written, and then what stood behind it.
pub written-first : {X : Type 0} (list new : List X) → write_at list 0 new ≡ new ++ drop (length new) list
unfolding write_at
written-first {X} list new = let none : 0 + length new ≡ length new = omega arith in ap (λ (n : ℕ). new ++ drop n list) none

-- A list in which the `n` bits of a number were written at the first place begins with them.
pub segment-written : (high : Bool) (list : List Bool) (s n v : ℕ) → s ≡ 0 → take n (write_at list s (segment_bits high n v)) ≡ segment_bits high n v
segment-written high list s n v first =
    rw first (ap (take n) (written-first list (segment_bits high n v)) ∙ segment-taken high n v (drop (length (segment_bits high n v)) list))

-- A bit set in a range of a list is set in the range's bits, at its index there.
pub bits_in-set : (list : List Bool) (i : ℕ) (bit : Bool) (from to : ℕ) → to ≤ length list → from ≤ i → i < to → bits_in (slice_set list i bit) from to ≡ slice_set (bits_in list from to) (i - from) bit
unfolding bits_in
bits_in-set list i bit from to inside low high = range-set_inside list i bit from to inside low high
