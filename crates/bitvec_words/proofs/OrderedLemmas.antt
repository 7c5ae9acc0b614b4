-- Elements in a word from its least significant bit on, and the same ones under an order.
use Rattle.std.specs.Prelude.{◌≡◌, ◌≢◌, ℕ, ◌+◌, ◌-◌, ◌*◌, ◌/◌, ◌%◌, ◌^◌, ◌<◌, ◌≤◌, if◌then◌else◌, Bool, false, not, List, ◌++◌, length, replicate, slice_index, slice_index_or, slice_range, bit_or, bit_xor, None, refl}
use Rattle.std.proofs.Common.{arith, sym, ◌∙◌, ap, subst}
use Rattle.std.proofs.Math.Nat.{add-mul, mul-le-mul_left}
use Rattle.std.proofs.lemmas.List.{length-replicate, same_lists}
use Rattle.std.proofs.lemmas.Nat.{div-add-mod', div_below, mod_below}
use Rattle.bitvec_store.specs.Width.{IsWidth}
use Rattle.bitvec_store.specs.WidthLaws.{width_some}
use Rattle.bitvec_base.specs.Lists.{first_place}
use Rattle.bitvec_base.specs.Memory.{HasWindow, element_bits, list_in, memory_bits, place_bit}
use Rattle.bitvec_base.specs.MemoryLaws.{element_fits, element-range, get-element_bits, get-memory_bits, length-element_bits, length-memory_bits, memory-range, place_bit-element}
use Rattle.bitvec_base.specs.Order.{Permutes}
use Rattle.bitvec_base.specs.PlacesLaws.{first_place-absent, first_place-other}
use Rattle.bitvec_base.specs.SliceLaws.{range-all, range-same}
use Rattle.bitvec_base.specs.Window.{window_of, write_at}
use Rattle.bitvec_base.specs.WriteLaws.{write_at-all}
use Rattle.bitvec_words.specs.CombinedLaws.{length-elements}
use Rattle.bitvec_words.specs.Elements.{HasElements, SameElements, elements_window}
use Rattle.bitvec_words.specs.ShortWindow.{padded}
use Rattle.bitvec_words.specs.FieldLaws.{element_of, list-element}
use Rattle.bitvec_words.specs.MovedLaws.{element-joined}
use Rattle.bitvec_words.specs.WholeLaws.{elements-inside}
use Rattle.bitvec_words.specs.WordLaws.{padded-all, word_whole}
use Rattle.bitvec_words.proofs.ScanLemmas.{lacks_filled}
use Rattle.bitvec_words.proofs.WordScanLemmas.{HasWindow-elements, block_words, list-block, none-of_four}

abbrev low : ℕ → ℕ → ℕ
low b i = i

-- an element's bits under an order are those numbered from the least significant one on
element-same : (b : ℕ) (at : ℕ → ℕ → ℕ) → Permutes b (at b) → (v w : ℕ) → element_bits b low v ≡ element_bits b low w → element_bits b at v ≡ element_bits b at w
element-same b at p v w same =
    same_lists _ _ (grind (arith, length-element_bits)) (λ k d inside. grind (arith, length-element_bits, get-element_bits, p.below k, ap (λ (l : List Bool). slice_index_or l (at b k) d) same))

-- a place of a memory is one of those numbered from the least significant bit on
pub place-low : (b : ℕ) (at : ℕ → ℕ → ℕ) → Permutes b (at b) → 0 < b → (xs : List ℕ) (k : ℕ) → k < b * length xs → (d : Bool)
    → slice_index_or (memory_bits b at xs) k d ≡ slice_index_or (memory_bits b low xs) (k / b * b + at b (k % b)) d
place-low b at p some xs k inside d =
    let there = p.below (k % b) (mod_below k b some) in
    let fits = element_fits b (k / b) (length xs) (div_below k b (length xs) some (omega arith)) in
    grind (arith, get-memory_bits, place_bit-element b at xs (k / b) (k % b), place_bit-element b low xs (k / b) (at b (k % b)), ap (place_bit b at xs) (div-add-mod' k b), mod_below)

-- elements that lack a bit lack it under every order
pub lacks-same : (b : ℕ) (at : ℕ → ℕ → ℕ) → Permutes b (at b) → 0 < b → (xs : List ℕ) (want : Bool) → None ≡ first_place want (memory_bits b low xs) → None ≡ first_place want (memory_bits b at xs)
lacks-same b at p some xs want none =
    let n = b * length xs in
    let long = length-memory_bits b at xs in
    let low-long = length-memory_bits b low xs in
    let absent = first_place-absent want (memory_bits b low xs) (sym none) in
    let all : memory_bits b at xs ≡ replicate n (not want) =
    lacks_filled n (memory_bits b at xs) want long (λ k inside.
    let fits = element_fits b (k / b) (length xs) (div_below k b (length xs) some (omega arith)) in
    subst (λ (x : Bool). x ≢ want) (sym (place-low b at p some xs k (omega arith) false)) (absent (k / b * b + at b (k % b)) (omega arith))) in
    rw (all, first_place-other want n) refl

-- elements of a memory
pub list-elements_at : {b : ℕ} (at : ℕ → ℕ → ℕ) {xs : List ℕ} (first n : ℕ) → 0 < b → HasWindow b xs (elements_window b first n) → memory_bits b at (slice_range xs first (first + n)) ≡ list_in b at xs (elements_window b first n)
unfolding window_of
list-elements_at {b} at {xs} first n some has =
    memory-range b at xs first (first + n) some (omega arith) (elements-inside first n some has)
    ∙ range-same (memory_bits b at xs) (first * b) ((first + n) * b) (first * b) (first * b + n * b) refl (add-mul first n b)

-- ---- the elements of a word

module _ (b : ℕ) (at : ℕ → ℕ → ℕ) (p : Permutes b (at b)) (width : IsWidth b) (narrow : b ≤ 64) (word : ℕ) (xs : List ℕ) (elements : HasElements b word xs) where
  long : b * length xs ≡ 64
  long = sym (sym (length-element_bits 64 low word) ∙ ap length elements ∙ length-memory_bits b low xs)

  inside : HasWindow b xs (elements_window b 0 (64 / b))
  inside =
      let all = long in
      record { fits = omega arith; within = record { start = omega arith; len = omega arith } }

  -- one that was taken out of it
  taken : (v step : ℕ) → step < length xs → element_bits b low v ≡ write_at (replicate b false) 0 (slice_range (element_bits 64 low word) (step * b) (step * b + b)) → element_bits b at v ≡ element_bits b at (slice_index xs step)
  taken v step more is =
      let wide = length-element_bits b low (slice_index xs step) in
      let none = length-replicate b false in
      element-same b at p v (slice_index xs step)
      (is
      ∙ ap (λ (l : List Bool). write_at (replicate b false) 0 (slice_range l (step * b) (step * b + b))) elements
      ∙ ap (write_at (replicate b false) 0) (element-range b low xs step more)
      ∙ write_at-all (replicate b false) (element_bits b low (slice_index xs step)) (omega arith))

  -- and joined to those before it
  pub word-next : (ordered v part step : ℕ) → step < 64 / b
      → element_bits 64 at ordered ≡ padded 64 (list_in b at xs (elements_window b 0 step))
      → element_bits b low v ≡ write_at (replicate b false) 0 (slice_range (element_bits 64 low word) (step * b) (step * b + b))
      → element_bits 64 at part ≡ write_at (replicate 64 false) (step * b) (slice_range (element_bits b at v) 0 (0 + b))
      → element_bits 64 at (bit_or ordered part) ≡ padded 64 (list_in b at xs (elements_window b 0 (step + 1)))
  word-next ordered v part step more before is moved =
      let some = width_some b width in
      let order = mul-le-mul_left b more in
      let has = inside in
      let here : step < length xs = element_of b step 0 (length xs) (omega arith) in
      let wide = length-element_bits b at (slice_index xs step) in
      let passed = length-elements b at xs (0 * b) (64 / b) step has more in
      let placed = moved
      ∙ ap (λ (l : List Bool). write_at (replicate 64 false) (step * b) (slice_range l 0 (0 + b))) (taken v step here is)
      ∙ ap (write_at (replicate 64 false) (step * b)) (range-all (element_bits b at (slice_index xs step)) (0 + b) (omega arith)) in
      let first : slice_index xs step ≡ slice_index xs (0 + step) = ap (slice_index xs) (let same : step ≡ 0 + step = omega arith in same) in
      element-joined 64 at ordered part (step * b) (list_in b at xs (elements_window b 0 step)) (element_bits b at (slice_index xs step)) (sym passed) (omega arith) before placed
      ∙ ap (λ (n : ℕ). padded 64 (list_in b at xs (elements_window b 0 step) ++ element_bits b at n)) first
      ∙ ap (padded 64) (list-element at 0 (64 / b) step some has more)

  -- all of them
  pub word-all : (step : ℕ) → step ≡ 64 / b → padded 64 (list_in b at xs (elements_window b 0 step)) ≡ memory_bits b at xs
  unfolding window_of
  word-all step end =
      let all = long in
      let whole = word_whole b width narrow in
      let wide = length-memory_bits b at xs in
      ap (λ (n : ℕ). padded 64 (list_in b at xs (elements_window b 0 n))) end
      ∙ ap (padded 64) (range-same (memory_bits b at xs) (0 * b) (0 * b + 64 / b * b) 0 64 (omega arith) (omega arith) ∙ range-all (memory_bits b at xs) 64 (omega arith))
      ∙ padded-all {b = 64} {list = memory_bits b at xs} (omega arith)

-- ---- the elements of a block, as four words

module _ (b : ℕ) (at : ℕ → ℕ → ℕ) (p : Permutes b (at b)) (xs : List ℕ) (first : ℕ) (width : IsWidth b) (narrow : b ≤ 64) (has : HasWindow b xs (elements_window b first (256 / b))) (want : Bool) (one two three four : ℕ)
    (loaded : element_bits 64 low one ≡ list_in b low xs (elements_window b first (64 / b)))
    (loaded-two : element_bits 64 low two ≡ list_in b low xs (elements_window b (first + 1 * (64 / b)) (64 / b)))
    (loaded-three : element_bits 64 low three ≡ list_in b low xs (elements_window b (first + 2 * (64 / b)) (64 / b)))
    (loaded-four : element_bits 64 low four ≡ list_in b low xs (elements_window b (first + 3 * (64 / b)) (64 / b))) where
  some : 0 < b
  some = width_some b width

  -- that lack the bit
  pub block-lacks : (lacking : ℕ) → lacking ≡ (if not want then 2 ^ 64 - 1 else 0) → bit_or (bit_or (bit_or (bit_xor one lacking) (bit_xor two lacking)) (bit_xor three lacking)) (bit_xor four lacking) ≡ 0
      → None ≡ first_place want (list_in b at xs (elements_window b first (256 / b)))
  block-lacks lacking filled zero =
      let none = none-of_four 64 low (record { below = λ i h. h; apart = λ i j h k e. e }) lacking want filled one two three four zero in
      let all : None ≡ first_place want (list_in b low xs (elements_window b first (256 / b))) =
      (rw (loaded, loaded-two, loaded-three, loaded-four) at none) ∙ ap (first_place want) (list-block low first width narrow has) in
      lacks-same b at p some (slice_range xs first (first + 256 / b)) want (all ∙ ap (first_place want) (sym (list-elements_at low first (256 / b) some has)))
      ∙ ap (first_place want) (list-elements_at at first (256 / b) some has)

  abbrev part : ℕ → List ℕ
  part place = slice_range xs place (place + 64 / b)

  module _ (place : ℕ) (below : first ≤ place) (fits : place + 64 / b ≤ first + 256 / b) where
    here : HasWindow b xs (elements_window b place (64 / b))
    here = HasWindow-elements b at xs first (256 / b) has place (64 / b) below fits

    held : (word : ℕ) → element_bits 64 low word ≡ list_in b low xs (elements_window b place (64 / b)) → HasElements b word (part place)
    held word is = is ∙ sym (list-elements_at low place (64 / b) some here)

    listed : memory_bits b at (part place) ≡ list_in b at xs (elements_window b place (64 / b))
    listed = list-elements_at at place (64 / b) some here

    -- as a word under the order
    ordered : (word made : ℕ) → element_bits 64 low word ≡ list_in b low xs (elements_window b place (64 / b)) → SameElements b at word made → element_bits 64 at made ≡ list_in b at xs (elements_window b place (64 / b))
    ordered word made is same = same (part place) (held word is) ∙ listed

  -- or that were put in the order
  pub block-ordered : (ordered_one ordered_two ordered_three ordered_four : ℕ) → SameElements b at one ordered_one → SameElements b at two ordered_two → SameElements b at three ordered_three → SameElements b at four ordered_four
      → (element_bits 64 at ordered_one ++ element_bits 64 at ordered_two) ++ (element_bits 64 at ordered_three ++ element_bits 64 at ordered_four) ≡ list_in b at xs (elements_window b first (256 / b))
  block-ordered ordered_one ordered_two ordered_three ordered_four same same-two same-three same-four =
      let words = block_words b width narrow in
      rw (
        ordered first (omega arith) (omega arith) one ordered_one loaded same,
        ordered (first + 1 * (64 / b)) (omega arith) (omega arith) two ordered_two loaded-two same-two,
        ordered (first + 2 * (64 / b)) (omega arith) (omega arith) three ordered_three loaded-three same-three,
        ordered (first + 3 * (64 / b)) (omega arith) (omega arith) four ordered_four loaded-four same-four,
      )
      (list-block at first width narrow has)
