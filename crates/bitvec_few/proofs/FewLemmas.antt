-- Windows of at most 64 bits as words: of one element or two, and across the elements of a word.
use Rattle.std.specs.Prelude.{◌≡◌, ◌≢◌, ℕ, ◌+◌, ◌-◌, ◌*◌, ◌/◌, ◌%◌, ◌^◌, ◌<◌, ◌≤◌, ◌==◌, Bool, false, cond, List, ◌++◌, length, replicate, slice_index, slice_range, take, bit_or, count_by, count_ones, refl}
use Rattle.std.proofs.Common.{arith, sym, ◌∙◌, ap, inl, inr, ⊎_elim, length-append, zero, suc}
use Rattle.std.proofs.lemmas.Bool.{cases_lt}
use Rattle.std.proofs.lemmas.Bool.Decides.{Decides-eqb, Decides-like, same_from_decides}
use Rattle.std.proofs.lemmas.List.Folds.{sum_by-replicate}
use Rattle.std.proofs.lemmas.List.Sums.{sum_by-append}
use Rattle.std.proofs.lemmas.Nat.{div-add-mod', mod_below}
use Rattle.bitvec_base.specs.BitsFixMemory.{element_bits-fix}
use Rattle.bitvec_base.specs.declared.window.Window.{Window}
use Rattle.bitvec_base.specs.Lists.{same_bits}
use Rattle.bitvec_base.specs.ListsLaws.{same_bits-decides}
use Rattle.bitvec_base.specs.Memory.{HasWindow, Writes, element_bits, list_in}
use Rattle.bitvec_base.specs.MemoryLaws.{length-element_bits}
use Rattle.bitvec_base.specs.Order.{Permutes}
use Rattle.bitvec_base.specs.Parts.{part_window}
use Rattle.bitvec_base.specs.SliceLaws.{range-from_start}
use Rattle.bitvec_base.specs.Window.{write_at}
use Rattle.bitvec_base.specs.WritesLaws.{Writes-is, Writes-join}
use Rattle.bitvec_words.specs.AcrossLaws.{Writes-behind, first-values, length-first, word-tail}
use Rattle.bitvec_words.specs.WordLaws.{padded-all, take-all, word_whole}
use Rattle.bitvec_store.specs.Width.{IsWidth}
use Rattle.bitvec_store.specs.WidthLaws.{width_some}
use Rattle.bitvec_cells.specs.Cost.{fill_loads, touched_count}
use Rattle.bitvec_cells.specs.ElementLaws.{element-count}
use Rattle.bitvec_cells.specs.WalkLaws.{touched-none}
use Rattle.bitvec_words.specs.Elements.{elements_window}
use Rattle.bitvec_words.specs.ShortWindow.{padded}
use Rattle.bitvec_words.specs.FieldLaws.{element_of}
use Rattle.bitvec_words.specs.FillingLaws.{fill_loads-some}
use Rattle.bitvec_words.specs.MovedLaws.{element-joined, take-word, written-padded}
use Rattle.bitvec_words.specs.TouchedLaws.{touched-one, touched-two, touched-word_across}

-- values moved to the start
padded-moved : (b n : ℕ) (list : List Bool) → n ≤ length list → n ≤ b → write_at (replicate b false) 0 (slice_range list 0 (0 + n)) ≡ padded b (take n list)
padded-moved b n list fits bound =
    let long = length-first list n fits in
    ap (write_at (replicate b false) 0) (range-from_start list n (0 + n) (omega arith)) ∙ written-padded b (take n list) (omega arith)

-- the first bits of an element, moved to the start of a word
pub padded-word : (b : ℕ) (at : ℕ → ℕ → ℕ) (n element word : ℕ) (list : List Bool) → n ≤ b → n ≤ 64 → element_bits 64 at word ≡ write_at (replicate 64 false) 0 (slice_range (element_bits b at element) 0 (0 + n)) → take n (element_bits b at element) ≡ list → element_bits 64 at word ≡ padded 64 list
padded-word b at n element word list short fits put is =
    let wide = length-element_bits b at element in
    put ∙ padded-moved 64 n (element_bits b at element) (omega arith) fits ∙ ap (padded 64) is

-- ---- the first bits of a word, moved to the start of an element, for a window no longer than the element

pub few-stored : (b : ℕ) (at : ℕ → ℕ → ℕ) (n element word : ℕ) → n ≤ b → n ≤ 64 → element_bits b at element ≡ write_at (replicate b false) 0 (slice_range (element_bits 64 at word) 0 (0 + n)) → take n (element_bits b at element) ≡ take n (element_bits 64 at word)
few-stored b at n element word short fits put =
    let wide = length-element_bits 64 at word in
    take-word b _ (put ∙ padded-moved b n (element_bits 64 at word) (omega arith) short) (sym (length-first (element_bits 64 at word) n (omega arith)))

pub few-touched : (b s n : ℕ) → 0 < b → n ≤ b → touched_count b s n ≤ fill_loads n
few-touched b s zero some short = let none = touched-none b s in omega arith
few-touched b s (suc n) some short =
    let loads = fill_loads-some (suc n) (omega arith) in
    ⊎_elim
    (λ (over : b < s % b + suc n). let two = touched-two b s (suc n) some short over in omega arith)
    (λ (fits : s % b + suc n ≤ b). let one = touched-one b s (suc n) some (omega arith) fits in omega arith)
    (cases_lt b (s % b + suc n))

-- ---- 64 bits that begin inside an element narrower than a word

module _ (b : ℕ) (window : Window) (width : IsWidth b) (narrow : b < 64) (size : window.len ≡ 64) (inside : window.start % b ≢ 0) where
  pub touched-across : touched_count b window.start window.len ≡ 64 / b + 1
  touched-across = rw size (touched-word_across b window.start width (omega arith) (omega arith))

  -- the elements of a word get what the first has before the window, and the word's first bits; the next gets the others
  pub stored-across : (at : ℕ → ℕ → ℕ) {old mid new : List ℕ} {first skip head : ℕ} (kept moved behind word : ℕ) → first ≡ window.start / b → skip ≡ window.start % b → HasWindow b old window → head ≡ slice_index old first
      → element_bits 64 at kept ≡ write_at (replicate 64 false) 0 (slice_range (element_bits b at head) 0 (0 + skip))
      → element_bits 64 at moved ≡ write_at (replicate 64 false) skip (slice_range (element_bits 64 at word) 0 (0 + (64 - skip)))
      → element_bits b at behind ≡ write_at (replicate b false) 0 (slice_range (element_bits 64 at word) (64 - skip) (64 - skip + skip))
      → Writes b at old mid (elements_window b first (64 / b)) (element_bits 64 at (bit_or kept moved))
      → Writes b at mid new (part_window b (record { element = first + 64 / b; from = 0; to = skip })) (slice_range (element_bits b at behind) 0 skip)
      → Writes b at old new window (take window.len (element_bits 64 at word))
  stored-across at {old} {mid} {new} {first} {skip} {head} kept moved behind word place_is index has loaded low-bits high-bits last-bits before after =
      let bits = element_bits 64 at word in
      let some = width_some b width in
      let whole = word_whole b width (omega arith) in
      let place : first * b + skip ≡ window.start = rw (place_is, index) (div-add-mod' window.start b) in
      let below : skip < b = rw index (mod_below window.start b some) in
      let low = has.within.start in
      let high = has.within.len in
      let wide = length-element_bits 64 at word in
      let head-wide = length-element_bits b at head in
      let elements = elements_window b first (64 / b) in
      let begin : Window = record { start = window.start; len = 64 - skip } in
      let has-elements : HasWindow b old elements = record { fits = has.fits; within = record { start = omega arith; len = omega arith } } in
      let here : first < length old = element_of b first skip (length old) (omega arith) in
      let front = length-first (element_bits b at head) skip (omega arith) in
      let rest = length-first bits (64 - skip) (omega arith) in
      let stored : element_bits 64 at (bit_or kept moved) ≡ take skip (list_in b at old elements) ++ take (64 - skip) bits =
      element-joined 64 at kept moved skip (take skip (element_bits b at head)) (take (64 - skip) bits) (sym front) (omega arith)
      (low-bits ∙ padded-moved 64 skip (element_bits b at head) (omega arith) (omega arith))
      (high-bits ∙ ap (write_at (replicate 64 false) skip) (range-from_start bits (64 - skip) (0 + (64 - skip)) (omega arith)))
      ∙ padded-all {b = 64} (omega (arith, length-append {A = Bool}))
      ∙ ap (λ (v : ℕ). take skip (element_bits b at v) ++ take (64 - skip) bits) loaded
      ∙ ap (λ (l : List Bool). l ++ take (64 - skip) bits) (sym (first-values at first (64 / b) skip some here has-elements below (omega arith))) in
      Writes-is
      (Writes-join {new = new} {second = part_window b (record { element = first + 64 / b; from = 0; to = skip })} has refl (omega arith) (omega arith)
      (Writes-behind b at old mid elements begin skip (take (64 - skip) bits) has-elements (sym place) (omega arith) rest (Writes-is before stored))
      after)
      (ap (λ (l : List Bool). take (64 - skip) bits ++ slice_range l 0 skip) last-bits
      ∙ word-tail bits b skip wide below narrow
      ∙ sym (take-all bits window.len (omega arith)))

-- ---- words of 64 bits as numbers

word_width : IsWidth 64
word_width = inr (inr (inr (inl refl)))

-- words are equal where the lists are that they begin with
pub same-words : (at : ℕ → ℕ → ℕ) → ((b : ℕ) → IsWidth b → Permutes b (at b)) → (v w : ℕ) (xs ys : List Bool) → v < 2 ^ 64 → w < 2 ^ 64 → length xs ≡ length ys → element_bits 64 at v ≡ padded 64 xs → element_bits 64 at w ≡ padded 64 ys → (v == w) ≡ same_bits xs ys
same-words at permutes v w xs ys small other long left right =
    same_from_decides _ _ (Decides-eqb v w)
    (Decides-like (same_bits xs ys)
    (λ h. element_bits-fix 64 at (permutes 64 word_width) v w small other (left ∙ ap (padded 64) h ∙ sym right))
    (λ e. sym (take-word 64 {n = length xs} xs left refl) ∙ ap (λ (n : ℕ). take (length xs) (element_bits 64 at n)) e ∙ take-word 64 ys right long)
    (same_bits-decides xs ys))

-- zeros behind a list are no ones
padded-ones : (b : ℕ) (list : List Bool) → count_by (λ (bit : Bool). bit) (padded b list) ≡ count_by (λ (bit : Bool). bit) list
unfolding padded
padded-ones b list =
    let both = sum_by-append (λ (bit : Bool). cond bit 1 0) list (replicate (b - length list) false) in
    let none = sum_by-replicate (λ (bit : Bool). cond bit 1 0) (b - length list) false in
    omega arith

pub word-ones : (at : ℕ → ℕ → ℕ) → ((b : ℕ) → IsWidth b → Permutes b (at b)) → (v : ℕ) (list : List Bool) → v < 2 ^ 64 → element_bits 64 at v ≡ padded 64 list → count_ones v ≡ count_by (λ (bit : Bool). bit) list
word-ones at permutes v list small held =
    element-count 64 at (permutes 64 word_width) v small ∙ ap (λ (l : List Bool). count_by (λ (bit : Bool). bit) l) held ∙ padded-ones 64 list
