-- The number of a range by others: of two ranges side by side, by its bits, of one bit, of zeros and of ones.
use Rattle.std.specs.Prelude.{◌≡◌, ℕ, ◌+◌, ◌-◌, ◌*◌, ◌%◌, ◌^◌, ◌<◌, ◌≤◌, ◌⊎◌, ◌==◌, if◌then◌else◌, Bool, true, false, List, [], ◌∷◌, drop, length, refl, slice_index_or, slice_range, take}
use Rattle.std.specs.Int.{bit_at}
use Rattle.std.proofs.Common.{arith, sym, ◌∙◌, ap, inl, inr}
use Rattle.std.proofs.Math.Seq.{drop-cons}
use Rattle.std.proofs.lemmas.List.{get_or_default}
use Rattle.std.proofs.lemmas.Nat.{mod_below}
use Rattle.bitvec_base.specs.MemoryLaws.{get-element_bits}
use Rattle.bitvec_base.specs.WriteLaws.{length-slice_range}
use Rattle.bitvec_in_place.specs.FrontLaws.{ranges-joined}
use Rattle.bitvec_in_place.specs.NumberPartsLaws.{number-cleared, number-filled_up, number-joined_is, number-same_bits}
use Rattle.bitvec_in_place.specs.NumbersLaws.{number-below, number-numbered}
use Rattle.bitvec_in_place.specs.RangeBitsLaws.{bits-same, get-bits_in, length-bits_in}
use Rattle.bitvec_in_place.specs.Ranges.{bits_in, filled, number_in, numbered}
use Rattle.bitvec_in_place.specs.RangesLaws.{get-filled_inside, length-filled, length-numbered, number-beside}
use Rattle.bitvec_segments.specs.NumberLaws.{segment-told}
use Rattle.bitvec_segments.specs.PlainLaws.{append-highest, append-lowest, loaded-plain}
use Rattle.bitvec_segments.specs.Segments.{bit_number, loaded, segment_bits, segment_number}

-- ---- two ranges side by side

-- The number of `a..e`, first bit highest, is that of `a..m` times `2^(e - m)`, plus that of `m..e`.
pub number-high_sides : (b : ℕ) (list : List Bool) (a m e : ℕ) → a ≤ m → m ≤ e → e ≤ length list
    → number_in true true b list a e ≡ number_in true true b list a m * 2 ^ (e - m) + number_in true true b list m e
unfolding number_in
number-high_sides b list a m e low high inside =
    let left : List Bool = slice_range list a m in
    let right : List Bool = slice_range list m e in
    let long : length right ≡ e - m = length-slice_range list m e inside in
    loaded-plain true true b a (slice_range list a e) refl
    ∙ ap (segment_number true) (ranges-joined list a m e low high)
    ∙ append-highest left right
    ∙ ap (λ (n : ℕ). segment_number true left * 2 ^ n + segment_number true right) long
    ∙ ap (λ (n : ℕ). n * 2 ^ (e - m) + segment_number true right) (sym (loaded-plain true true b a left refl))
    ∙ ap (λ (n : ℕ). loaded true true b a left * 2 ^ (e - m) + n) (sym (loaded-plain true true b m right refl))

-- The number of `a..e`, first bit lowest, is that of `m..e` times `2^(m - a)`, plus that of `a..m`.
pub number-low_sides : (b : ℕ) (list : List Bool) (a m e : ℕ) → a ≤ m → m ≤ e → e ≤ length list
    → number_in false false b list a e ≡ number_in false false b list m e * 2 ^ (m - a) + number_in false false b list a m
unfolding number_in
number-low_sides b list a m e low high inside =
    let left : List Bool = slice_range list a m in
    let right : List Bool = slice_range list m e in
    let long : length left ≡ m - a = length-slice_range list a m (omega arith) in
    loaded-plain false false b a (slice_range list a e) refl
    ∙ ap (segment_number false) (ranges-joined list a m e low high)
    ∙ append-lowest left right
    ∙ ap (λ (n : ℕ). segment_number false right * 2 ^ n + segment_number false left) long
    ∙ ap (λ (n : ℕ). n * 2 ^ (m - a) + segment_number false left) (sym (loaded-plain false false b m right refl))
    ∙ ap (λ (n : ℕ). loaded false false b m right * 2 ^ (m - a) + n) (sym (loaded-plain false false b a left refl))

-- numbers that were stored side by side are one number
module _ (b : ℕ) (list : List Bool) (a m e v w : ℕ) (some : 0 < b) (low : a ≤ m) (high : m ≤ e) (inside : e ≤ length list) where
  -- Two numbers stored side by side, first bit highest, make the first times `2^(e - m)` plus the second, each as far as it fits.
  pub number-high_stored : number_in true true b (numbered true true b (numbered true true b list a m v) m e w) a e ≡ v % 2 ^ (m - a) * 2 ^ (e - m) + w % 2 ^ (e - m)
  number-high_stored =
      let old : List Bool = numbered true true b list a m v in
      let new : List Bool = numbered true true b old m e w in
      let was : length old ≡ length list = length-numbered true true b list a m v low (omega arith) in
      let is : length new ≡ length list = length-numbered true true b old m e w high (omega arith) ∙ was in
      let first : number_in true true b new a m ≡ v % 2 ^ (m - a) =
      number-beside true true b old m e w true true b a m high (omega arith) low (omega arith) (inl (omega arith)) ∙ number-numbered true true b list a m v some low (omega arith) in
      let second : number_in true true b new m e ≡ w % 2 ^ (e - m) = number-numbered true true b old m e w some high (omega arith) in
      number-high_sides b new a m e low high (omega arith) ∙ rw (first, second) refl

  -- Two numbers stored side by side, first bit lowest, make the second times `2^(m - a)` plus the first, each as far as it fits.
  pub number-low_stored : number_in false false b (numbered false false b (numbered false false b list a m v) m e w) a e ≡ w % 2 ^ (e - m) * 2 ^ (m - a) + v % 2 ^ (m - a)
  number-low_stored =
      let old : List Bool = numbered false false b list a m v in
      let new : List Bool = numbered false false b old m e w in
      let was : length old ≡ length list = length-numbered false false b list a m v low (omega arith) in
      let is : length new ≡ length list = length-numbered false false b old m e w high (omega arith) ∙ was in
      let first : number_in false false b new a m ≡ v % 2 ^ (m - a) =
      number-beside false false b old m e w false false b a m high (omega arith) low (omega arith) (inl (omega arith)) ∙ number-numbered false false b list a m v some low (omega arith) in
      let second : number_in false false b new m e ≡ w % 2 ^ (e - m) = number-numbered false false b old m e w some high (omega arith) in
      number-low_sides b new a m e low high (omega arith) ∙ rw (first, second) refl

-- ---- no bit, and one

-- An empty range has the number 0.
pub number-none : (big high : Bool) (b : ℕ) (list : List Bool) (a e : ℕ) → a ≡ e → e ≤ length list → number_in big high b list a e ≡ 0
number-none big high b list a e is inside =
    let below = number-below big high b list a e inside in
    let none : e - a ≡ 0 = omega arith in
    let one : 2 ^ (e - a) ≡ 1 = ap (λ (n : ℕ). 2 ^ n) none in
    omega arith

segment-one : (high bit : Bool) → segment_number high (bit ∷ []) ≡ (if bit then 1 else 0)
unfolding segment_number
segment-one true true = refl
segment-one true false = refl
segment-one false true = refl
segment-one false false = refl

bits-one : (list : List Bool) (k e : ℕ) → e ≡ k + 1 → e ≤ length list → bits_in list k e ≡ slice_index_or list k false ∷ []
unfolding bits_in
bits-one list k e is inside =
    let long : e - k ≡ 1 = omega arith in
    ap (λ (n : ℕ). take n (drop k list)) long ∙ ap (take 1) (drop-cons list k false (omega arith))

-- A range of one bit has the number 1 or 0, as the bit is.
pub number-one : (big high : Bool) (b : ℕ) (list : List Bool) (k e : ℕ) → e ≡ k + 1 → 0 < b → e ≤ length list → number_in big high b list k e ≡ (if slice_index_or list k false then 1 else 0)
number-one big high b list k e is some inside =
    let below = mod_below k b some in
    number-joined_is big high b list k e some inside (inr (omega arith))
    ∙ ap (segment_number high) (bits-one list k e is inside)
    ∙ segment-one high (slice_index_or list k false)

-- ---- ranges of one bit

module _ (big high : Bool) (b : ℕ) (list : List Bool) (a e : ℕ) (some : 0 < b) (order : a ≤ e) (inside : e ≤ length list) where
  same_filled : (bit : Bool) → ((k : ℕ) → a ≤ k → k < e → slice_index_or list k false ≡ bit) → number_in big high b list a e ≡ number_in big high b (filled list a e bit) a e
  same_filled bit each =
      number-same_bits big high b (filled list a e bit) list a e a e refl
      (bits-same (filled list a e bit) list a e (sym (length-filled list a e bit order inside)) (omega (arith, length-filled list a e bit order inside))
      (λ k d low below. get_or_default list k d false (omega arith) ∙ each k low below ∙ sym (get-filled_inside list a e bit k d inside low below)))

  -- A range whose bits are all 0 has the number 0.
  pub number-zeros : ((k : ℕ) → a ≤ k → k < e → slice_index_or list k false ≡ false) → number_in big high b list a e ≡ 0
  number-zeros each = same_filled false each ∙ number-cleared big high b list a e a e some (omega arith) order (omega arith) inside

  -- A range of `n` bits that are all 1 has the number `2^n - 1`.
  pub number-ones : ((k : ℕ) → a ≤ k → k < e → slice_index_or list k false ≡ true) → number_in big high b list a e ≡ 2 ^ (e - a) - 1
  number-ones each = same_filled true each ∙ number-filled_up big high b list a e a e some (omega arith) order (omega arith) inside

-- ---- bits by the number

get-told : (big high : Bool) (b : ℕ) (list : List Bool) (from to k : ℕ) → 0 < b → (big ≡ high) ⊎ (from % b + (to - from) ≤ b) → to ≤ length list → from ≤ k → k < to
    → slice_index_or list k false ≡ (bit_at (number_in big high b list from to) (bit_number high (to - from) (k - from)) == 1)
get-told big high b list from to k some joins inside low below =
    let part : List Bool = bits_in list from to in
    let long : length part ≡ to - from = length-bits_in list from to inside in
    let there : from + (k - from) ≡ k = omega arith in
    let number = number-joined_is big high b list from to some inside joins in
    let told : segment_bits high (to - from) (number_in big high b list from to) ≡ part = rw (number, ← long) (segment-told high part) in
    ap (λ (i : ℕ). slice_index_or list i false) (sym there)
    ∙ sym (get-bits_in list from to (k - from) false (omega arith))
    ∙ ap (λ (l : List Bool). slice_index_or l (k - from) false) (sym told)
    ∙ get-element_bits (to - from) (bit_number high) (number_in big high b list from to) (k - from) false (omega arith)

module _ (big : Bool) (b : ℕ) (list : List Bool) (from to k : ℕ) (some : 0 < b) (inside : to ≤ length list) (low : from ≤ k) (below : k < to) where
  -- Under `Msb0`, bit `to - 1 - k` of the number of `from..to` is the list's bit at `k`, where the number has no seam.
  pub get-high_number : (big ≡ true) ⊎ (from % b + (to - from) ≤ b) → (bit_at (number_in big true b list from to) (to - 1 - k) == 1) ≡ slice_index_or list k false
  get-high_number joins =
      let place : to - from - 1 - (k - from) ≡ to - 1 - k = omega arith in
      sym (get-told big true b list from to k some joins inside low below ∙ ap (λ (p : ℕ). bit_at (number_in big true b list from to) p == 1) place)

  -- Under `Lsb0`, bit `k - from` of the number of `from..to` is the list's bit at `k`, where the number has no seam.
  pub get-low_number : (big ≡ false) ⊎ (from % b + (to - from) ≤ b) → (bit_at (number_in big false b list from to) (k - from) == 1) ≡ slice_index_or list k false
  get-low_number joins = sym (get-told big false b list from to k some joins inside low below)
