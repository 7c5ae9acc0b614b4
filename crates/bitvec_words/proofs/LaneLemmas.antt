-- Elements of 128 bits as two words: their bits, and words joined at both places.
use Rattle.std.specs.Prelude.{◌≡◌, ℕ, ◌+◌, ◌-◌, ◌*◌, ◌/◌, ◌%◌, ◌^◌, ◌<◌, ◌≤◌, ◌||◌, Bool, true, false, List, [], ◌∷◌, ◌++◌, take, drop, slice_index, slice_index_or, bit_or, refl}
use Rattle.std.specs.Int.{bit_at}
use Rattle.std.specs.Simd.Lanes.{zip2}
use Rattle.std.proofs.Common.{arith, sym, ◌∙◌, ap}
use Rattle.std.proofs.lemmas.List.{same_lists, places}
use Rattle.std.proofs.lemmas.Nat.{mod_below, or_lt, pow_pos, shr_le}
use Rattle.std.proofs.lemmas.Nat.Bits.{bit_at_cat_low, bit_at_cat_high}
use Rattle.bitvec_base.specs.Lists.{combined, shifted_start, shifted_end}
use Rattle.bitvec_base.specs.Memory.{element_bits}
use Rattle.bitvec_base.specs.MemoryLaws.{get-element_bits, length-element_bits}
use Rattle.bitvec_words.specs.ElementLaws.{element-or}
use Rattle.bitvec_words.specs.Lanes.{AreJoined, AreWords, IsJoined, number_of_words, words_between}
use Rattle.bitvec_words.specs.OrderEnd.{RunsFrom}
use Rattle.bitvec_words.proofs.OrderEndLaws.{shl-high, shl-low, shr-high, shr-low}
use Rattle.bitvec_words.proofs.ShiftedLaws.{shifted-joined_twice}

-- ---- one word joined of two

or_of : (at : ℕ → ℕ → ℕ) (k x y v w : ℕ) → k < 64
    → element_bits 64 at v ≡ shifted_start k (element_bits 64 at x)
    → element_bits 64 at w ≡ shifted_end (63 - k) (shifted_end 1 (element_bits 64 at y))
    → IsJoined at k x y (bit_or v w)
or_of at k x y v w bound first second =
    element-or 64 at v w
    ∙ ap (λ (l : List Bool). combined ◌||◌ l (element_bits 64 at w)) first
    ∙ ap (combined ◌||◌ (shifted_start k (element_bits 64 at x))) second
    ∙ shifted-joined_twice 64 k _ _ (length-element_bits 64 at x) (length-element_bits 64 at y) bound

joined-low : (high : Bool) (at : ℕ → ℕ → ℕ) → RunsFrom high 64 at → high ≡ false → (k x y : ℕ) → k < 64 → x < 2 ^ 64
    → IsJoined at k x y (bit_or (x / 2 ^ k) (y * 2 ^ 1 % 2 ^ 64 * 2 ^ (63 - k) % 2 ^ 64))
joined-low high at ends is k x y bound small =
    or_of at k x y _ _ bound (shr-low high 64 at ends is x k small bound)
    (shl-low high 64 at ends is (y * 2 ^ 1 % 2 ^ 64) (63 - k) (omega arith)
    ∙ ap (shifted_end (63 - k)) (shl-low high 64 at ends is y 1 (omega arith)))

joined-high : (high : Bool) (at : ℕ → ℕ → ℕ) → RunsFrom high 64 at → high ≡ true → (k x y : ℕ) → k < 64 → y < 2 ^ 64
    → IsJoined at k x y (bit_or (x * 2 ^ k % 2 ^ 64) (y / 2 ^ 1 / 2 ^ (63 - k)))
joined-high high at ends is k x y bound small =
    or_of at k x y _ _ bound (shl-high high 64 at ends is x k bound)
    (shr-high high 64 at ends is (y / 2 ^ 1) (63 - k) (omega arith) (omega arith)
    ∙ ap (shifted_end (63 - k)) (shr-high high 64 at ends is y 1 small (omega arith)))

-- ---- both

-- what holds of each list of two words
two_words : (P : List ℕ → Type 0) → ((x y : ℕ) → x < 2 ^ 64 → y < 2 ^ 64 → P (x ∷ y ∷ [])) → (words : List ℕ) → AreWords words → P words
two_words P p [] h = absurd (omega (arith, h.two))
two_words P p (x ∷ []) h = absurd (omega (arith, h.two))
two_words P p (x ∷ y ∷ []) h = p x y h.low h.high
two_words P p (x ∷ y ∷ z ∷ words) h = absurd (omega (arith, h.two))

-- the words that two shifts make
abbrev shifted_words : (ℕ → ℕ → ℕ) → (ℕ → ℕ → ℕ) → ℕ → List ℕ → List ℕ → List ℕ
shifted_words one other k first second = zip2 bit_or (zip2 one first (k ∷ k ∷ [])) (zip2 other (zip2 other second (1 ∷ 1 ∷ [])) ((63 - k) ∷ (63 - k) ∷ []))

abbrev down : ℕ → ℕ → ℕ
down x n = x / 2 ^ n

abbrev up : ℕ → ℕ → ℕ
up x n = x * 2 ^ n % 2 ^ 64

-- those words
abbrev Joins : (ℕ → ℕ → ℕ) → ℕ → List ℕ → List ℕ → List ℕ → Type 0
Joins at k first second words = AreWords words × AreJoined at k first second words

down-few : (x n : ℕ) → x < 2 ^ 64 → down x n < 2 ^ 64
down-few x n small = let less = shr_le x n in omega arith

up-few : (x n : ℕ) → x < 2 ^ 64 → up x n < 2 ^ 64
up-few x n small = mod_below (x * 2 ^ n) (2 ^ 64) (pow_pos 64)

words-joined : (one other : ℕ → ℕ → ℕ) → ((x n : ℕ) → x < 2 ^ 64 → one x n < 2 ^ 64) → ((x n : ℕ) → x < 2 ^ 64 → other x n < 2 ^ 64)
    → (at : ℕ → ℕ → ℕ) (k : ℕ) → ((x y : ℕ) → x < 2 ^ 64 → y < 2 ^ 64 → IsJoined at k x y (bit_or (one x k) (other (other y 1) (63 - k))))
    → (first second : List ℕ) → AreWords first → AreWords second → Joins at k first second (shifted_words one other k first second)
words-joined one other few fewer at k joined first second words more =
    two_words (λ first. Joins at k first second (shifted_words one other k first second))
    (λ x y hx hy. two_words (λ second. Joins at k (x ∷ y ∷ []) second (shifted_words one other k (x ∷ y ∷ []) second))
    (λ z w hz hw. (
      record { two = refl; low = or_lt 64 _ _ (few x k hx) (fewer _ (63 - k) (fewer z 1 hz)); high = or_lt 64 _ _ (few y k hy) (fewer _ (63 - k) (fewer w 1 hw)) },
      record { low = joined x z hx hz; high = joined y w hy hw },
    ))
    second more)
    first words

-- where the order starts at the least significant bit, and where at the most
pub words-joined-low : (high : Bool) (at : ℕ → ℕ → ℕ) → RunsFrom high 64 at → high ≡ false → (k : ℕ) → k < 64 → (first second : List ℕ) → AreWords first → AreWords second → Joins at k first second (shifted_words down up k first second)
words-joined-low high at ends is k bound = words-joined down up down-few up-few at k (λ x y hx hy. joined-low high at ends is k x y bound hx)

pub words-joined-high : (high : Bool) (at : ℕ → ℕ → ℕ) → RunsFrom high 64 at → high ≡ true → (k : ℕ) → k < 64 → (first second : List ℕ) → AreWords first → AreWords second → Joins at k first second (shifted_words up down k first second)
words-joined-high high at ends is k bound = words-joined up down up-few down-few at k (λ x y hx hy. joined-high high at ends is k x y bound hy)

-- ---- the bits of two words

halves : (at : ℕ → ℕ → ℕ) (v first second : ℕ)
    → ((i : ℕ) → i < 64 → bit_at v (at 128 i) ≡ bit_at first (at 64 i))
    → ((i : ℕ) → 64 ≤ i → i < 128 → bit_at v (at 128 i) ≡ bit_at second (at 64 (i - 64)))
    → element_bits 128 at v ≡ element_bits 64 at first ++ element_bits 64 at second
halves at v first second one other = same_lists _ _ (grind (arith, length-element_bits, places)) (λ i d inside. grind (arith, places, length-element_bits, get-element_bits, one i, other i))

halves-low : (at : ℕ → ℕ → ℕ) → ((b : ℕ) → RunsFrom false b at) → {x : ℕ} (y : ℕ) → x < 2 ^ 64 → element_bits 128 at (y * 2 ^ 64 + x) ≡ element_bits 64 at x ++ element_bits 64 at y
halves-low at ends {x} y small =
    halves at (y * 2 ^ 64 + x) x y
    (λ i low. ap (bit_at (y * 2 ^ 64 + x)) (ends 128 i (omega arith)) ∙ bit_at_cat_low y 64 x i low ∙ ap (bit_at x) (sym (ends 64 i low)))
    (λ i high below. ap (bit_at (y * 2 ^ 64 + x)) (ends 128 i below) ∙ bit_at_cat_high y 64 x i small high ∙ ap (bit_at y) (sym (ends 64 (i - 64) (omega arith))))

halves-high : (at : ℕ → ℕ → ℕ) → ((b : ℕ) → RunsFrom true b at) → {x : ℕ} (y : ℕ) → x < 2 ^ 64 → element_bits 128 at (y * 2 ^ 64 + x) ≡ element_bits 64 at y ++ element_bits 64 at x
halves-high at ends {x} y small =
    halves at (y * 2 ^ 64 + x) y x
    (λ i low.
    let place : 128 - 1 - i - 64 ≡ 64 - 1 - i = omega arith in
    ap (bit_at (y * 2 ^ 64 + x)) (ends 128 i (omega arith)) ∙ bit_at_cat_high y 64 x (128 - 1 - i) small (omega arith) ∙ ap (bit_at y) (place ∙ sym (ends 64 i low)))
    (λ i high below.
    let place : 128 - 1 - i ≡ 64 - 1 - (i - 64) = omega arith in
    ap (bit_at (y * 2 ^ 64 + x)) (ends 128 i below) ∙ bit_at_cat_low y 64 x (128 - 1 - i) (omega arith) ∙ ap (bit_at x) (place ∙ sym (ends 64 (i - 64) (omega arith))))

-- ---- four words, joined from a place in the first one, and in the second

module _ (at : ℕ → ℕ → ℕ) (x y z w : ℕ) {k : ℕ} (bound : k ≤ 64) where
  joined-before : (drop k (element_bits 64 at x) ++ take k (element_bits 64 at y)) ++ (drop k (element_bits 64 at y) ++ take k (element_bits 64 at z))
      ≡ drop k (element_bits 64 at x ++ element_bits 64 at y) ++ take k (element_bits 64 at z ++ element_bits 64 at w)
  joined-before = same_lists _ _ (grind (arith, places, length-element_bits)) (λ i d inside. grind (arith, places, length-element_bits))

  joined-behind : (drop k (element_bits 64 at y) ++ take k (element_bits 64 at z)) ++ (drop k (element_bits 64 at z) ++ take k (element_bits 64 at w))
      ≡ drop (64 + k) (element_bits 64 at x ++ element_bits 64 at y) ++ take (64 + k) (element_bits 64 at z ++ element_bits 64 at w)
  joined-behind = same_lists _ _ (grind (arith, places, length-element_bits)) (λ i d inside. grind (arith, places, length-element_bits))

-- ---- numbers of two words, joined

pub number-joined-before : (high : Bool) {at : ℕ → ℕ → ℕ} → ((b : ℕ) → RunsFrom high b at) → {k : ℕ} → k ≤ 64 → (first second between words : List ℕ)
    → AreWords first → AreWords second → AreWords words → between ≡ words_between high first second → AreJoined at k first between words
    → element_bits 128 at (number_of_words words) ≡ drop k (element_bits 128 at (number_of_words first)) ++ take k (element_bits 128 at (number_of_words second))
number-joined-before true {at} ends {k} bound first second between words one other made is joined =
    let j = rw is at joined in
    rw (halves-high at ends _ one.low, halves-high at ends _ other.low, halves-high at ends _ made.low, j.low, j.high)
    (joined-before at _ _ _ _ bound)
number-joined-before false {at} ends {k} bound first second between words one other made is joined =
    let j = rw is at joined in
    rw (halves-low at ends _ one.low, halves-low at ends _ other.low, halves-low at ends _ made.low, j.low, j.high)
    (joined-before at _ _ _ _ bound)

pub number-joined-behind : (high : Bool) {at : ℕ → ℕ → ℕ} → ((b : ℕ) → RunsFrom high b at) → {k skip : ℕ} → k ≤ 64 → skip ≡ 64 + k → (first second between words : List ℕ)
    → AreWords first → AreWords second → AreWords words → between ≡ words_between high first second → AreJoined at k between second words
    → element_bits 128 at (number_of_words words) ≡ drop skip (element_bits 128 at (number_of_words first)) ++ take skip (element_bits 128 at (number_of_words second))
number-joined-behind true {at} ends {k} bound sum first second between words one other made is joined =
    let j = rw is at joined in
    rw (sum, halves-high at ends _ one.low, halves-high at ends _ other.low, halves-high at ends _ made.low, j.low, j.high)
    (joined-behind at _ _ _ _ bound)
number-joined-behind false {at} ends {k} bound sum first second between words one other made is joined =
    let j = rw is at joined in
    rw (sum, halves-low at ends _ one.low, halves-low at ends _ other.low, halves-low at ends _ made.low, j.low, j.high)
    (joined-behind at _ _ _ _ bound)

-- the two words between
pub between-high : {high : Bool} {first second : List ℕ} → high ≡ true → AreWords first → AreWords second
    → slice_index_or (second ++ first) 1 0 ∷ slice_index_or (second ++ first) 2 0 ∷ [] ≡ words_between high first second
between-high {high} {first} {second} is one other = rw is
    (two_words (λ first. slice_index_or (second ++ first) 1 0 ∷ slice_index_or (second ++ first) 2 0 ∷ [] ≡ slice_index second 1 ∷ slice_index first 0 ∷ [])
    (λ x y hx hy. two_words (λ second. slice_index_or (second ++ (x ∷ y ∷ [])) 1 0 ∷ slice_index_or (second ++ (x ∷ y ∷ [])) 2 0 ∷ [] ≡ slice_index second 1 ∷ x ∷ []) (λ z w hz hw. refl) second other) first one)

pub between-low : {high : Bool} {first second : List ℕ} → high ≡ false → AreWords first → AreWords second
    → slice_index_or (first ++ second) 1 0 ∷ slice_index_or (first ++ second) 2 0 ∷ [] ≡ words_between high first second
between-low {high} {first} {second} is one other = rw is
    (two_words (λ first. slice_index_or (first ++ second) 1 0 ∷ slice_index_or (first ++ second) 2 0 ∷ [] ≡ slice_index first 1 ∷ slice_index second 0 ∷ [])
    (λ x y hx hy. two_words (λ second. slice_index_or ((x ∷ y ∷ []) ++ second) 1 0 ∷ slice_index_or ((x ∷ y ∷ []) ++ second) 2 0 ∷ [] ≡ y ∷ slice_index second 0 ∷ []) (λ z w hz hw. refl) second other) first one)
