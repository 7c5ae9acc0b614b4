-- The elements of a word, which are its digits.
use Rattle.std.specs.Prelude.{◌≡◌, ℕ, zero, suc, ◌+◌, ◌-◌, ◌*◌, ◌/◌, ◌%◌, ◌^◌, ◌<◌, ◌≤◌, ◌==◌, Bool, true, false, List, length, take, drop, slice_index, slice_index_or, refl}
use Rattle.std.specs.Int.{bit_at}
use Rattle.std.specs.Simd.Lanes.{digits_l}
use Rattle.std.proofs.Common.{arith, sym, ◌∙◌, ap}
use Rattle.std.proofs.Math.Nat.{div-div-eq-div-mul, div-one, suc-mul, zero-mul}
use Rattle.std.proofs.lemmas.List.{same_lists}
use Rattle.std.proofs.lemmas.Nat.{div-add-mod', div-mul-add, div_below, mod-mul-add, mod_below, pow-add}
use Rattle.bitvec_store.specs.DigitLaws.{length-digits}
use Rattle.bitvec_store.specs.Width.{IsWidth}
use Rattle.bitvec_store.specs.WidthLaws.{width_some}
use Rattle.bitvec_base.specs.Memory.{HasWindow, Writes, element_bits, list_in, memory_bits, place_bit}
use Rattle.bitvec_base.specs.MemoryLaws.{element_fits, get-element_bits, get-memory_bits, length-element_bits, length-memory_bits, place_bit-element}
use Rattle.bitvec_base.specs.Order.{Permutes}
use Rattle.bitvec_base.specs.ShiftLaws.{bit_at_cut, bit_at_shr}
use Rattle.bitvec_base.specs.Window.{write_at}
use Rattle.bitvec_base.specs.WriteLaws.{length-write_at}
use Rattle.bitvec_words.specs.Elements.{HasElements, SameElements, elements_window}
use Rattle.bitvec_words.specs.OrderEnd.{RunsFrom}
use Rattle.bitvec_words.specs.WholeLaws.{elements-inside}
use Rattle.bitvec_words.specs.WordLaws.{word_whole}
use Rattle.bitvec_words.specs.WrittenLaws.{memory-write_at}
use Rattle.bitvec_words.proofs.OrderedLemmas.{list-elements_at, place-low}

abbrev low : ℕ → ℕ → ℕ
low b i = i

-- ---- digits

digit-at : (b n word e : ℕ) → e < n → slice_index (digits_l (2 ^ b) n word) e ≡ word / 2 ^ (e * b) % 2 ^ b
digit-at b zero word e more = absurd (omega arith)
digit-at b (suc n) word zero more = ap (λ (y : ℕ). y % 2 ^ b) (sym (ap (λ (k : ℕ). word / 2 ^ k) (zero-mul b) ∙ div-one word))
digit-at b (suc n) word (suc e) more =
    let places : b + e * b ≡ suc e * b = omega (arith, suc-mul e b) in
    digit-at b n (word / 2 ^ b) e (omega arith)
    ∙ ap (λ (y : ℕ). y % 2 ^ b)
    (div-div-eq-div-mul word (2 ^ b) (2 ^ (e * b)) ∙ ap (λ (m : ℕ). word / m) (sym (pow-add 2 b (e * b)) ∙ ap (λ (k : ℕ). 2 ^ k) places))

-- a word has its digits as elements
word-digits : (b word : ℕ) → IsWidth b → b ≤ 64 → HasElements b word (digits_l (2 ^ b) (64 / b) word)
word-digits b word width narrow =
    let n = 64 / b in
    let xs = digits_l (2 ^ b) n word in
    let some = width_some b width in
    let whole = word_whole b width narrow in
    let count = ap (λ (m : ℕ). b * m) (length-digits (2 ^ b) n word) in
    let long = length-memory_bits b low xs in
    same_lists _ _ (grind (arith, length-element_bits)) (λ k d inside.
    let index = mod_below k b some in
    let below = div_below k b n some (grind (arith, length-element_bits)) in
    grind (arith, length-element_bits, get-element_bits, get-memory_bits, ap (place_bit b low xs) (div-add-mod' k b), place_bit-element b low xs (k / b) (k % b), digit-at b n word (k / b), bit_at_cut b (word / 2 ^ (k / b * b)) (k % b), bit_at_shr word (k / b * b) (k % b)))

-- ---- a word and the one that an order makes of it

-- the place among those numbered from the least significant bit on
abbrev place_of : ℕ → (ℕ → ℕ → ℕ) → ℕ → ℕ
place_of b at k = k / b * b + at b (k % b)

-- to number the bits by the order twice is to leave them
record Mirrored (b : ℕ) (at : ℕ → ℕ → ℕ) (k : ℕ) : Type 0 where
  within : at 64 (place_of b at k) < 64
  index : at 64 (at 64 (place_of b at k)) ≡ place_of b at k
  place : place_of b at (at 64 (place_of b at k)) ≡ at 64 k

mirrored : (high : Bool) (b : ℕ) (at : ℕ → ℕ → ℕ) → ((c : ℕ) → RunsFrom high c at) → IsWidth b → b ≤ 64 → (k : ℕ) → k < 64 → Mirrored b at k
mirrored false b at runs width narrow k inside =
    let some = width_some b width in
    let same : place_of b at k ≡ k = omega arith in
    let kept : at 64 k ≡ k = runs 64 k inside in
    let all : at 64 (place_of b at k) ≡ k = ap (at 64) same ∙ kept in
    record {
      within = omega arith;
      index = ap (at 64) all ∙ kept ∙ sym same;
      place = ap (place_of b at) all ∙ same ∙ sym kept;
    }
mirrored true b at runs width narrow k inside =
    let n = 64 / b in
    let some = width_some b width in
    let whole = word_whole b width narrow in
    let parts = div-add-mod' k b in
    let index = mod_below k b some in
    let below = div_below k b n some (omega arith) in
    let q = n - 1 - k / b in
    let count : n ≡ q + 1 + k / b = omega arith in
    let sum : n * b ≡ q * b + b + k / b * b = ap (λ (m : ℕ). m * b) count ∙ omega arith in
    let t = place_of b at k in
    let fits : t < 64 = omega arith in
    let other : at 64 t ≡ q * b + k % b = runs 64 t fits ∙ omega arith in
    let back = runs 64 (q * b + k % b) (omega arith) in
    let row = div-mul-add q b (k % b) index in
    let rest = mod-mul-add q b (k % b) index in
    record {
      within = omega arith;
      index = ap (at 64) other ∙ back ∙ omega arith;
      place = ap (place_of b at) other ∙ ap (λ (m : ℕ). m * b + at b ((q * b + k % b) % b)) row ∙ ap (λ (m : ℕ). q * b + at b m) rest ∙ sym (runs 64 k inside ∙ omega arith);
    }

module _ (high : Bool) (b : ℕ) (at : ℕ → ℕ → ℕ) (runs : (c : ℕ) → RunsFrom high c at) (p : Permutes b (at b)) (width : IsWidth b) (narrow : b ≤ 64) where
  -- the elements of a word under the order
  bit-of_word : (word : ℕ) (xs : List ℕ) → HasElements b word xs → (k : ℕ) (d : Bool) → k < 64 → slice_index_or (memory_bits b at xs) k d ≡ (bit_at word (place_of b at k) == 1)
  bit-of_word word xs elements k d inside =
      let some = width_some b width in
      let whole = word_whole b width narrow in
      let long = sym (length-memory_bits b low xs) ∙ sym (ap length elements) ∙ length-element_bits 64 low word in
      let row = element_fits b (k / b) (64 / b) (div_below k b (64 / b) some (omega arith)) in
      place-low b at p some xs k (omega arith) d
      ∙ ap (λ (l : List Bool). slice_index_or l (place_of b at k) d) (sym elements)
      ∙ get-element_bits 64 low word (place_of b at k) d (omega arith)

  -- the order makes the word again of what it made of it
  same-back : (word other : ℕ) → SameElements b at word other → SameElements b at other word
  same-back word other same xs elements =
      let ys = digits_l (2 ^ b) (64 / b) word in
      let digits = word-digits b word width narrow in
      let long = length-memory_bits b at xs in
      let full = sym (length-memory_bits b low xs) ∙ sym (ap length elements) ∙ length-element_bits 64 low other in
      let wide = length-element_bits 64 at word in
      same_lists _ _ (omega arith) (λ k d inside.
      let below : k < 64 = omega arith in
      let mirror = mirrored high b at runs width narrow k below in
      let m = at 64 (place_of b at k) in
      get-element_bits 64 at word k d below
      ∙ ap (λ (i : ℕ). bit_at word i == 1) (sym mirror.place)
      ∙ sym (bit-of_word word ys digits m d mirror.within)
      ∙ ap (λ (l : List Bool). slice_index_or l m d) (sym (same ys digits))
      ∙ get-element_bits 64 at other m d mirror.within
      ∙ ap (λ (i : ℕ). bit_at other i == 1) mirror.index
      ∙ sym (bit-of_word other xs elements k d below))

  module _ (xs : List ℕ) (first word other : ℕ) (has : HasWindow b xs (elements_window b first (64 / b))) (same : SameElements b at word other) where
    pub word-loaded : take (64 / b) (drop first xs) ≡ digits_l (2 ^ b) (64 / b) word → element_bits 64 at other ≡ list_in b at xs (elements_window b first (64 / b))
    word-loaded is =
        let n = 64 / b in
        let count : n ≡ first + n - first = omega arith in
        same (digits_l (2 ^ b) n word) (word-digits b word width narrow)
        ∙ ap (memory_bits b at) (sym is ∙ ap (λ (m : ℕ). take m (drop first xs)) count)
        ∙ list-elements_at at first n (width_some b width) has

    pub word-stored : (ys : List ℕ) → ys ≡ write_at xs first (digits_l (2 ^ b) (64 / b) other) → Writes b at xs ys (elements_window b first (64 / b)) (element_bits 64 at word)
    word-stored ys is =
        let n = 64 / b in
        let some = width_some b width in
        let digits = digits_l (2 ^ b) n other in
        let long = length-digits (2 ^ b) n other in
        let room : first + length digits ≤ length xs = omega (arith, elements-inside first n some has) in
        let bits = same-back word other same digits (word-digits b other width narrow) in
        rw is (record {
          bits = memory-write_at b at xs digits first some room ∙ ap (write_at (memory_bits b at xs) (first * b)) (sym bits);
          long = length-element_bits 64 at word ∙ sym (word_whole b width narrow);
          elements = length-write_at xs first digits room;
        })

-- a word as it is loaded
pub word-listed : (b : ℕ) → IsWidth b → b ≤ 64 → (xs : List ℕ) (first word : ℕ) → HasWindow b xs (elements_window b first (64 / b)) → take (64 / b) (drop first xs) ≡ digits_l (2 ^ b) (64 / b) word
    → element_bits 64 low word ≡ list_in b low xs (elements_window b first (64 / b))
word-listed b width narrow xs first word has is =
    word-loaded false b low (λ c i h. refl) (record { below = λ i h. h; apart = λ i j h k e. e }) width narrow xs first word word has (λ ys elements. elements) is
