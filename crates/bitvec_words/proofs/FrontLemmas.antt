-- The first bits of a window as a word: a whole word of elements, a part of one, and one bit after the other.
use Rattle.std.specs.Prelude.{◌≡◌, ◌≢◌, ℕ, ◌+◌, ◌-◌, ◌/◌, ◌%◌, ◌^◌, ◌<◌, ◌≤◌, ◌==◌, Bool, true, false, List, [], ◌∷◌, ◌++◌, length, replicate, slice_index, slice_range, bit_and, bit_or}
use Rattle.std.specs.Int.{bit_at}
use Rattle.std.proofs.Common.{arith, rules, sym, ◌∙◌, ap}
use Rattle.std.proofs.lemmas.List.{places, same_lists}
use Rattle.bitvec_base.specs.declared.window.Window.{Window}
use Rattle.bitvec_base.specs.FoundLaws.{masked-none, masked-one}
use Rattle.bitvec_base.specs.Memory.{HasWindow, element_bits, list_in}
use Rattle.bitvec_base.specs.MemoryLaws.{element-or_mask, get-element_bits, length-element_bits}
use Rattle.bitvec_base.specs.Order.{Permutes}
use Rattle.bitvec_base.specs.PartLaws.{length-part}
use Rattle.bitvec_base.specs.SliceLaws.{range-push}
use Rattle.bitvec_cells.specs.ElementLaws.{single_mask}
use Rattle.bitvec_base.specs.Parts.{first_part_of, part_window}
use Rattle.bitvec_base.specs.Window.{window_range, write_at}
use Rattle.bitvec_store.specs.Width.{IsWidth}
use Rattle.bitvec_store.specs.WidthLaws.{width_some}
use Rattle.bitvec_base.specs.WritesLaws.{length-list}
use Rattle.bitvec_words.specs.WordLaws.{padded-all, word_whole}
use Rattle.bitvec_cells.specs.WalkLaws.{Walked-start, first-len}
use Rattle.bitvec_words.specs.Elements.{elements_window}
use Rattle.bitvec_words.specs.ShortWindow.{padded}
use Rattle.bitvec_words.specs.FieldLaws.{list-part}
use Rattle.bitvec_words.specs.PartWalkLaws.{HasPart-first}
use Rattle.bitvec_words.specs.TouchedLaws.{head_edge}
use Rattle.bitvec_words.specs.WholeLaws.{HasWindow-part, behind-mod, list-same}
use Rattle.bitvec_words.specs.Front.{IsFront, front_window}

module _ (b : ℕ) (at : ℕ → ℕ → ℕ) (xs : List ℕ) (window : Window) (word : ℕ) (width : IsWidth b) where
  -- the elements of a word
  pub word-front : b ≤ 64 → 64 ≤ window.len → window.start % b ≡ 0 → HasWindow b xs window → element_bits 64 at word ≡ list_in b at xs (elements_window b (window.start / b) (64 / b)) → IsFront b at xs window word 64
  word-front narrow long edge has bits =
      let whole = word_whole b width narrow in
      let elements = elements_window b (window.start / b) (64 / b) in
      let len = length-list at (HasWindow-part elements has (omega arith) (omega arith)) in
      record {
        some = omega arith;
        most = omega arith;
        within = long;
        edge = λ few more. ap (λ (n : ℕ). (window.start + n) % b) (sym whole) ∙ behind-mod b window.start (64 / b) (width_some b width) ∙ edge;
        bits = bits ∙ sym (padded-all (len ∙ whole)) ∙ ap (padded 64) (list-same b at xs (window_range window 0 64) elements (omega arith) (omega arith));
      }

  -- the part of the first element, up to 64 bits of it
  pub part-front : 0 < window.len → HasWindow b xs window → (v : ℕ) → let part = first_part_of b (front_window window) in v ≡ slice_index xs part.element
      → element_bits 64 at word ≡ padded 64 (slice_range (element_bits b at v) part.from part.to) → IsFront b at xs window word (part.to - part.from)
  part-front some has v loaded bits =
      let wide = width_some b width in
      let front = front_window window in
      let part = first_part_of b front in
      let len = first-len b front wide (omega arith) in
      let has_front : HasWindow b xs front = record { fits = has.fits; within = record { start = has.within.start; len = omega arith } } in
      let same = list-same b at xs (window_range window 0 (part.to - part.from)) (part_window b part) (omega arith) (omega arith) in
      let holds = list-part at (HasPart-first wide (omega arith) has_front (Walked-start b front)) in
      record {
        some = omega arith;
        most = omega arith;
        within = omega arith;
        edge = λ narrow more. head_edge b window.start (part.to - part.from) window.len wide (omega arith) (omega arith);
        bits = bits ∙ ap (λ (n : ℕ). padded 64 (slice_range (element_bits b at n) part.from part.to)) loaded ∙ ap (padded 64) (sym holds ∙ same);
      }

-- ---- one bit more, n being what an element has of it

more_padded : (b n : ℕ) (list : List Bool) → n ≡ length list → n < b → write_at (padded b list) n (replicate (n + 1 - n) true) ≡ padded b (list ++ (true ∷ []))
unfolding write_at padded
more_padded b n list long below = same_lists _ _ (search (rules, places)) (λ k d inside. grind (arith, places))

none_padded : (b : ℕ) (list : List Bool) → length list < b → padded b list ≡ padded b (list ++ (false ∷ []))
unfolding padded
none_padded b list below = same_lists _ _ (search (rules, places)) (λ k d inside. grind (arith, places))

module _ (b c : ℕ) (at to : ℕ → ℕ → ℕ) (v word from i n : ℕ) (order : from ≤ i) (below : i < b) (fits : i < from + c) (is : n ≡ bit_and v (2 ^ at b i)) (held : element_bits c to word ≡ padded c (slice_range (element_bits b at v) from i)) where
  long : length (slice_range (element_bits b at v) from i) ≡ i - from
  long = length-part b at v from i (omega arith)

  next : (bit : Bool) → (bit_at v (at b i) == 1) ≡ bit → slice_range (element_bits b at v) from i ++ (bit ∷ []) ≡ slice_range (element_bits b at v) from (i + 1)
  next bit here =
      rw (← here, ← get-element_bits b at v i false below) (range-push (element_bits b at v) from i false order (omega (arith, length-element_bits)))

  pub gathered-none : n ≡ 0 → element_bits c to word ≡ padded c (slice_range (element_bits b at v) from (i + 1))
  gathered-none none =
      held ∙ none_padded c _ (omega (arith, long)) ∙ ap (padded c) (next false (ap (λ (c : ℕ). c == 1) (masked-none v (at b i) n is none)))

  pub gathered-one : Permutes c (to c) → n ≢ 0 → element_bits c to (bit_or word (2 ^ to c (i - from))) ≡ padded c (slice_range (element_bits b at v) from (i + 1))
  gathered-one p some =
      let size = long in
      rw (single_mask (to c) (i - from)) (element-or_mask c to p word (i - from) (i - from + 1) (omega arith) (omega arith))
      ∙ ap (λ (l : List Bool). write_at l (i - from) (replicate (i - from + 1 - (i - from)) true)) held
      ∙ more_padded c (i - from) _ (sym size) (omega arith)
      ∙ ap (padded c) (next true (ap (λ (c : ℕ). c == 1) (masked-one v (at b i) n is some)))
