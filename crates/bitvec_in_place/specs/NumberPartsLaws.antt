-- The number of a range by its bits: one bit and a part of a number that was stored, a range of one bit, a number that was moved.
use Rattle.std.specs.Prelude.{◌≡◌, ℕ, ◌+◌, ◌-◌, ◌*◌, ◌/◌, ◌%◌, ◌^◌, ◌<◌, ◌≤◌, ◌⊎◌, ◌==◌, if◌then◌else◌, Bool, true, false, List, length, replicate, slice_index_or, slice_range, refl, suc, zero}
use Rattle.std.proofs.Common.{arith, sym, ◌∙◌, ap, ⊎_elim, inl, inr}
use Rattle.std.proofs.Math.Nat.{div-div-eq-div-mul, mod-add-mod}
use Rattle.std.proofs.lemmas.List.{drop-replicate, length-replicate, same_lists, take-replicate}
use Rattle.std.proofs.lemmas.Nat.{pow-add, pow_pos}
use Rattle.bitvec_base.specs.LengthLaws as lasting
use Rattle.bitvec_base.specs.Lists.{copied_within}
use Rattle.bitvec_base.specs.MemoryLaws.{get-element_bits, length-element_bits}
use Rattle.bitvec_base.specs.WriteLaws.{length-slice_range}
use Rattle.bitvec_segments.specs.LoadLaws.{loaded-first, loaded-none, loaded-phase, loaded-segment, lower_bits}
use Rattle.bitvec_segments.specs.NumberLaws.{segment-number, segment-told, segment_bits-mod}
use Rattle.bitvec_segments.specs.PlainLaws.{loaded-plain}
use Rattle.bitvec_segments.specs.Segments.{bit_number, loaded, segment_bits, segment_number, stored}
use Rattle.bitvec_segments.specs.SegmentsLaws.{first-some, first_len}
use Rattle.bitvec_segments.specs.StoreLaws.{length-stored, stored-loads}
use Rattle.bitvec_within.specs.Combined.{combined_within}
use Rattle.bitvec_within.specs.Swaps.{LieApart, swapped_within}
use Rattle.bitvec_within.specs.SwapsLaws.{get-swapped_back, get-swapped_front, length-swapped}
use Rattle.bitvec_in_place.specs.MovedLaws.{get-copied_inside, get-put_inside}
use Rattle.bitvec_in_place.specs.Ranges.{bits_in, filled, number_in, numbered}
use Rattle.bitvec_in_place.specs.RangeBitsLaws.{bits-combined, bits-in_filled, bits-swapped, get-bits_in, length-bits_in}
use Rattle.bitvec_in_place.specs.RangesLaws.{length-numbered}

-- ---- the number of a list, by its bits alone

-- Two ranges with the same bits have one number, where both begin at the same index in an element.
pub number-same_bits : (big high : Bool) (b : ℕ) (old new : List Bool) (a e c f : ℕ) → a % b ≡ c % b → bits_in new a e ≡ bits_in old c f → number_in big high b new a e ≡ number_in big high b old c f
unfolding number_in bits_in
number-same_bits big high b old new a e c f phase same = loaded-phase big high b a c (slice_range new a e) phase ∙ ap (loaded big high b c) same

-- where the first segment counts as its first bit does, or there is one, a list has the number of a segment
loaded-joined : (big high : Bool) (b s : ℕ) (list : List Bool) → 0 < b → (big ≡ high) ⊎ (s % b + length list ≤ b) → loaded big high b s list ≡ segment_number high list
loaded-joined big high b s list some joins =
    ⊎_elim (λ (is : big ≡ high). loaded-plain big high b s list is) (λ (inside : s % b + length list ≤ b). loaded-segment big high b s list some inside) joins

-- A range's number is `segment_number` of its bits, where it has no seam (`big` is `high`) or lies in one element.
pub number-joined_is : (big high : Bool) (b : ℕ) (list : List Bool) (a e : ℕ) → 0 < b → e ≤ length list → (big ≡ high) ⊎ (a % b + (e - a) ≤ b) → number_in big high b list a e ≡ segment_number high (bits_in list a e)
unfolding number_in bits_in
number-joined_is big high b list a e some within joins =
    let long = length-slice_range list a e within in
    loaded-joined big high b a (slice_range list a e) some (rw long joins)

-- A store leaves the bits of one segment, where the number has no seam (`big` is `high`) or lies in one element.
pub stored-joined : (big high : Bool) (b s v : ℕ) (list : List Bool) → 0 < b → (big ≡ high) ⊎ (s % b + length list ≤ b) → stored big high b s v list ≡ segment_bits high (length list) v
stored-joined big high b s v list some joins =
    let new : List Bool = stored big high b s v list in
    let long : length new ≡ length list = length-stored big high b s v list in
    let number : segment_number high new ≡ v % 2 ^ length list = sym (loaded-joined big high b s new some (rw long joins)) ∙ stored-loads big high b s v list some in
    sym (segment-told high new) ∙ ap (λ (n : ℕ). segment_bits high n (segment_number high new)) long
    ∙ ap (segment_bits high (length list)) number ∙ segment_bits-mod high (length list) v

-- ---- bits and parts of a number that was stored

-- how much a bit of a range counts
place_counts : (high : Bool) (from to k : ℕ) → from ≤ k → k < to → bit_number high (to - from) (k - from) ≡ (if high then to - 1 - k else k - from)
place_counts true from to k low below = omega arith
place_counts false from to k low below = omega arith

part_counts : (high : Bool) (from to a e i : ℕ) → from ≤ a → e ≤ to → a + i < e → (if high then to - e else a - from) + bit_number high (e - a) i ≡ (if high then to - 1 - (a + i) else a + i - from)
part_counts true from to a e i low below short = omega arith
part_counts false from to a e i low below short = omega arith

bit_of_rest : (v s p q : ℕ) → s + p ≡ q → v / 2 ^ s / 2 ^ p % 2 ≡ v / 2 ^ q % 2
bit_of_rest v s p q is = ap (λ (n : ℕ). n % 2) (div-div-eq-div-mul v (2 ^ s) (2 ^ p) ∙ ap (λ (n : ℕ). v / n) (sym (pow-add 2 s p) ∙ ap (λ (n : ℕ). 2 ^ n) is))

all_counts : (high : Bool) (from to v : ℕ) → v / 2 ^ (if high then to - to else from - from) ≡ v
all_counts true from to v = let none : to - to ≡ 0 = omega arith in ap (λ (n : ℕ). v / 2 ^ n) none ∙ omega arith
all_counts false from to v = let none : from - from ≡ 0 = omega arith in ap (λ (n : ℕ). v / 2 ^ n) none ∙ omega arith

module _ (big high : Bool) (b : ℕ) (list : List Bool) (from to v : ℕ) where
  -- Where `v` was stored without a seam or in one element, the bit at `k` is the bit of `v` that counts there.
  pub get-numbered_inside : (k : ℕ) (d : Bool) → 0 < b → (big ≡ high) ⊎ (from % b + (to - from) ≤ b) → to ≤ length list → from ≤ k → k < to
      → slice_index_or (numbered big high b list from to v) k d ≡ (v / 2 ^ (if high then to - 1 - k else k - from) % 2 == 1)
  unfolding numbered
  get-numbered_inside k d some joins inside low below =
      let part : List Bool = slice_range list from to in
      let long : length part ≡ to - from = length-slice_range list from to inside in
      let made : length (stored big high b from v part) ≡ to - from = length-stored big high b from v part ∙ long in
      get-put_inside list from to (stored big high b from v part) (omega arith) inside made k d low below
      ∙ ap (λ (l : List Bool). slice_index_or l (k - from) d) (stored-joined big high b from v part some (rw long joins))
      ∙ ap (λ (n : ℕ). slice_index_or (segment_bits high n v) (k - from) d) long
      ∙ get-element_bits (to - from) (bit_number high) v (k - from) d (omega arith)
      ∙ ap (λ (p : ℕ). v / 2 ^ p % 2 == 1) (place_counts high from to k low below)

  -- Where `v` was stored without a seam, a part of the range that has none has the number of those bits of `v`.
  pub number-part : (end : Bool) (a e : ℕ) → 0 < b → (big ≡ high) ⊎ (from % b + (to - from) ≤ b) → (end ≡ high) ⊎ (a % b + (e - a) ≤ b)
      → from ≤ a → a ≤ e → e ≤ to → to ≤ length list
      → number_in end high b (numbered big high b list from to v) a e ≡ v / 2 ^ (if high then to - e else a - from) % 2 ^ (e - a)
  number-part end a e some joins also low order below inside =
      let new : List Bool = numbered big high b list from to v in
      let whole : length new ≡ length list = length-numbered big high b list from to v (omega arith) inside in
      let w : ℕ = v / 2 ^ (if high then to - e else a - from) in
      let long : length (bits_in new a e) ≡ e - a = length-bits_in new a e (omega arith) in
      let made = length-element_bits (e - a) (bit_number high) w in
      number-joined_is end high b new a e some (omega arith) also
      ∙ ap (segment_number high) (same_lists (bits_in new a e) (segment_bits high (e - a) w) (omega arith) (λ i d short.
      get-bits_in new a e i d (omega arith)
      ∙ get-numbered_inside (a + i) d some joins inside (omega arith) (omega arith)
      ∙ ap (λ (n : ℕ). n == 1) (sym (bit_of_rest v _ _ _ (part_counts high from to a e i low below (omega arith))))
      ∙ sym (get-element_bits (e - a) (bit_number high) w i d (omega arith))))
      ∙ segment-number high (e - a) w

  -- A number stored in `n` bits of one element is `v` modulo `2^n` from either end.
  pub number-other_end : (end : Bool) → 0 < b → from % b + (to - from) ≤ b → from ≤ to → to ≤ length list → number_in end high b (numbered big high b list from to v) from to ≡ v % 2 ^ (to - from)
  number-other_end end some one order inside =
      number-part end from to some (inr one) (inr one) (omega arith) order (omega arith) inside
      ∙ ap (λ (n : ℕ). n % 2 ^ (to - from)) (all_counts high from to v)

-- ---- ranges of one bit

segment_zeros : (high : Bool) (n : ℕ) → segment_number high (replicate n false) ≡ 0
unfolding segment_number
segment_zeros high zero = omega arith
segment_zeros false (suc n) = let rest = segment_zeros false n in omega arith
segment_zeros true (suc n) = let rest = segment_zeros true n in omega arith

segment_ones : (high : Bool) (n : ℕ) → segment_number high (replicate n true) ≡ 2 ^ n - 1
unfolding segment_number
segment_ones high zero = omega arith
segment_ones false (suc n) =
    let rest = segment_ones false n in
    let twice = pow-add 2 n 1 in
    let some = pow_pos n in
    omega arith
segment_ones true (suc n) =
    let rest = segment_ones true n in
    let twice = pow-add 2 n 1 in
    let some = pow_pos n in
    let long = length-replicate n true in
    rw long (omega arith)

-- the numbers of two lists of zeros, and of two lists of ones, side by side
zeros_side : (big : Bool) (k m : ℕ) → 0 * 2 ^ lower_bits big 0 m + 0 * 2 ^ lower_bits big k 0 ≡ 0
zeros_side big k m = omega arith

joined_ones : (x y : ℕ) → 0 < x → 0 < y → (x - 1) * y + (y - 1) ≡ x * y - 1
joined_ones zero y first second = absurd (omega arith)
joined_ones (suc x) y first second = let one : suc x - 1 ≡ x = omega arith in rw one (omega arith)

ones_side : (big : Bool) (k m : ℕ) → (2 ^ k - 1) * 2 ^ lower_bits big 0 m + (2 ^ m - 1) * 2 ^ lower_bits big k 0 ≡ 2 ^ (k + m) - 1
ones_side true k m =
    let both = joined_ones (2 ^ k) (2 ^ m) (pow_pos k) (pow_pos m) in
    let power = pow-add 2 k m in
    let unit : (2 ^ m - 1) * 2 ^ 0 ≡ 2 ^ m - 1 = omega arith in
    rw (unit, power) both
ones_side false k m =
    let both = joined_ones (2 ^ m) (2 ^ k) (pow_pos m) (pow_pos k) in
    let order : k + m ≡ m + k = omega arith in
    let power = pow-add 2 m k in
    let unit : (2 ^ k - 1) * 2 ^ 0 + (2 ^ m - 1) * 2 ^ k ≡ (2 ^ m - 1) * 2 ^ k + (2 ^ k - 1) = omega arith in
    rw (unit, order, power) both

-- a list of one bit whose rest has a number, by its first segment
module _ (big high bit : Bool) (b s n k : ℕ) (some : 0 < b) (more : 0 < n) (is : k ≡ first_len b s n) where
  first-same : (v w : ℕ) → segment_number high (replicate k bit) ≡ v → loaded big high b (s + k) (replicate (n - k) bit) ≡ w
      → loaded big high b s (replicate n bit) ≡ v * 2 ^ lower_bits big 0 (n - k) + w * 2 ^ lower_bits big k 0
  first-same v w first rest =
      let long = length-replicate n bit in
      let taken = take-replicate k n bit (omega arith) in
      let dropped = drop-replicate k n bit in
      loaded-first big high b s (replicate n bit) k some (omega arith) (is ∙ ap (first_len b s) (sym long))
      ∙ rw (long, taken, dropped, first, rest) refl

loaded_zeros : (most : ℕ) (big high : Bool) (b s n : ℕ) → 0 < b → n ≤ most → loaded big high b s (replicate n false) ≡ 0
loaded_zeros most big high b s zero some few = loaded-none big high b s
loaded_zeros zero big high b s (suc n) some few = absurd (omega arith)
loaded_zeros (suc most) big high b s (suc n) some few =
    let k : ℕ = first_len b s (suc n) in
    let taken : 0 < k = first-some b s (suc n) some (omega arith) in
    first-same big high false b s (suc n) k some (omega arith) refl 0 0 (segment_zeros high k) (loaded_zeros most big high b (s + k) (suc n - k) some (omega arith))
    ∙ zeros_side big k (suc n - k)

loaded_ones : (most : ℕ) (big high : Bool) (b s n : ℕ) → 0 < b → n ≤ most → loaded big high b s (replicate n true) ≡ 2 ^ n - 1
loaded_ones most big high b s zero some few = loaded-none big high b s ∙ omega arith
loaded_ones zero big high b s (suc n) some few = absurd (omega arith)
loaded_ones (suc most) big high b s (suc n) some few =
    let k : ℕ = first_len b s (suc n) in
    let taken : 0 < k = first-some b s (suc n) some (omega arith) in
    let whole : k + (suc n - k) ≡ suc n = omega arith in
    first-same big high true b s (suc n) k some (omega arith) refl (2 ^ k - 1) (2 ^ (suc n - k) - 1) (segment_ones high k) (loaded_ones most big high b (s + k) (suc n - k) some (omega arith))
    ∙ ones_side big k (suc n - k) ∙ ap (λ (m : ℕ). 2 ^ m - 1) whole

module _ (big high : Bool) (b : ℕ) (list : List Bool) (from to a e : ℕ) (some : 0 < b) (low : from ≤ a) (order : a ≤ e) (below : e ≤ to) (inside : to ≤ length list) where
  -- A range within one that was filled with 0 has the number 0.
  pub number-cleared : number_in big high b (filled list from to false) a e ≡ 0
  unfolding number_in bits_in
  number-cleared = ap (loaded big high b a) (bits-in_filled list from to a e false low below inside (omega arith)) ∙ loaded_zeros (e - a) big high b a (e - a) some (omega arith)

  -- A range of `n` bits within one that was filled with 1 has the number `2^n - 1`.
  pub number-filled_up : number_in big high b (filled list from to true) a e ≡ 2 ^ (e - a) - 1
  unfolding number_in bits_in
  number-filled_up = ap (loaded big high b a) (bits-in_filled list from to a e true low below inside (omega arith)) ∙ loaded_ones (e - a) big high b a (e - a) some (omega arith)

-- ---- beside two ranges that were exchanged, and beside one that was combined with another

-- A range beside two ranges that were swapped has the number that it had.
pub number-swapped : (big high : Bool) (b from to dest : ℕ) (list : List Bool) (a e : ℕ) → from ≤ to → to ≤ length list → dest + (to - from) ≤ length list → e ≤ length list
    → (e ≤ from) ⊎ (to ≤ a) → (e ≤ dest) ⊎ (dest + (to - from) ≤ a) → number_in big high b (swapped_within from to dest list) a e ≡ number_in big high b list a e
number-swapped big high b from to dest list a e order source room within front back =
    number-same_bits big high b list (swapped_within from to dest list) a e a e refl (bits-swapped list from to a e dest order source room within front back)

-- A range beside the bits that were combined has the number that it had.
pub number-combined : (big high : Bool) (b : ℕ) (f : Bool → Bool → Bool) (from to dest : ℕ) (list : List Bool) (a e : ℕ) → from ≤ to → dest + (to - from) ≤ length list → e ≤ length list
    → (e ≤ dest) ⊎ (dest + (to - from) ≤ a) → number_in big high b (combined_within f from to dest list) a e ≡ number_in big high b list a e
number-combined big high b f from to dest list a e order room within apart =
    number-same_bits big high b list (combined_within f from to dest list) a e a e refl (bits-combined list from to a e f dest order room within apart)

-- ---- a number that was moved

-- with its bits it moves, where its segments join without a seam or where its phase is as before
module _ (big high : Bool) (b : ℕ) (old new : List Bool) (a e from place : ℕ) (some : 0 < b) (order : a ≤ e) (low : place ≤ a) (long : length new ≡ length old) (within : e ≤ length old) (there : from + (e - place) ≤ length old) where
  bits-moved : ((k : ℕ) (d : Bool) → a ≤ k → k < e → slice_index_or new k d ≡ slice_index_or old (from + (k - place)) d) → bits_in new a e ≡ bits_in old (from + (a - place)) (from + (e - place))
  bits-moved each =
      let is = length-bits_in new a e (omega arith) in
      let was = length-bits_in old (from + (a - place)) (from + (e - place)) there in
      same_lists _ _ (omega arith) (λ k d inside.
      let at : from + (a + k - place) ≡ from + (a - place) + k = omega arith in
      get-bits_in new a e k d (omega arith) ∙ each (a + k) d (omega arith) (omega arith)
      ∙ ap (λ (n : ℕ). slice_index_or old n d) at
      ∙ sym (get-bits_in old (from + (a - place)) (from + (e - place)) k d (omega arith)))

  number-moved : (big ≡ high) ⊎ (from % b ≡ place % b) → ((k : ℕ) (d : Bool) → a ≤ k → k < e → slice_index_or new k d ≡ slice_index_or old (from + (k - place)) d)
      → number_in big high b new a e ≡ number_in big high b old (from + (a - place)) (from + (e - place))
  number-moved whole each =
      let same = bits-moved each in
      ⊎_elim
      (λ (is : big ≡ high).
      number-joined_is big high b new a e some (omega arith) (inl is) ∙ ap (segment_number high) same
      ∙ sym (number-joined_is big high b old (from + (a - place)) (from + (e - place)) some there (inl is)))
      (λ (phase : from % b ≡ place % b).
      let at : a ≡ place + (a - place) = omega arith in
      let shifted : a % b ≡ (from + (a - place)) % b =
      ap (λ (n : ℕ). n % b) at ∙ sym (mod-add-mod place b (a - place)) ∙ ap (λ (n : ℕ). (n + (a - place)) % b) (sym phase) ∙ mod-add-mod from b (a - place) in
      number-same_bits big high b old new a e (from + (a - place)) (from + (e - place)) shifted same)
      whole

module _ (big high : Bool) (b from to dest : ℕ) (list : List Bool) (a e : ℕ) (some : 0 < b) (source : from ≤ to) (inside : to ≤ length list) (room : dest + (to - from) ≤ length list) (order : a ≤ e) where
  -- A part of a copy has its source's number, where `big` is `high` or copy and source begin at one index in an element.
  pub number-copied_to : dest ≤ a → e ≤ dest + (to - from) → (big ≡ high) ⊎ (from % b ≡ dest % b) → number_in big high b (copied_within from to dest list) a e ≡ number_in big high b list (from + (a - dest)) (from + (e - dest))
  number-copied_to low high_end whole =
      number-moved big high b list (copied_within from to dest list) a e from dest some order low (lasting.length-copied_within from to dest list inside room) (omega arith) (omega arith) whole
      (λ k d above below. get-copied_inside from to dest list k d inside room (omega arith) (omega arith))

  -- After a swap, a part at `dest` has its number at `from`, where `big` is `high` or both begin alike in their elements.
  pub number-swapped_to : dest ≤ a → e ≤ dest + (to - from) → (big ≡ high) ⊎ (from % b ≡ dest % b) → number_in big high b (swapped_within from to dest list) a e ≡ number_in big high b list (from + (a - dest)) (from + (e - dest))
  number-swapped_to low high_end whole =
      number-moved big high b list (swapped_within from to dest list) a e from dest some order low (length-swapped from to dest list source inside room) (omega arith) (omega arith) whole
      (λ k d above below. get-swapped_back from to dest list source inside room k d (omega arith) (omega arith))

  -- After a swap of ranges apart, a part at `from` has its number at `dest`, where `big` is `high` or both begin alike in elements.
  pub number-swapped_from : LieApart from to dest → from ≤ a → e ≤ to → (big ≡ high) ⊎ (dest % b ≡ from % b) → number_in big high b (swapped_within from to dest list) a e ≡ number_in big high b list (dest + (a - from)) (dest + (e - from))
  number-swapped_from apart low high_end whole =
      number-moved big high b list (swapped_within from to dest list) a e dest from some order low (length-swapped from to dest list source inside room) (omega arith) (omega arith) whole
      (λ k d above below. get-swapped_front from to dest list source inside room k d apart (omega arith) (omega arith))
