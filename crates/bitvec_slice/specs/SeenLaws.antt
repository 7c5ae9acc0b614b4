-- The bits that a view shows of a whole memory, and of a part of a view.
use Rattle.std.specs.Prelude.{◌≡◌, ℕ, ◌+◌, ◌-◌, ◌*◌, ◌%◌, ◌<◌, ◌≤◌, List, [], length, map, slice_range, refl}
use Rattle.std.proofs.Common.{arith, sym, ◌∙◌, ap}
use Rattle.std.proofs.lemmas.List.{length-map, nil_from_length}
use Rattle.bitvec_base.specs.Memory.{HasWindow, memory_bits}
use Rattle.bitvec_base.specs.MemoryLaws.{length-memory_bits}
use Rattle.bitvec_base.specs.SliceLaws.{range-all, range-map}
use Rattle.bitvec_base.specs.Window.{IsWithin, max_bits, window_of}
use Rattle.bitvec_base.specs.WindowLaws.{length-window}
use Rattle.bitvec_base.specs.WriteLaws.{range-range}
use Rattle.bitvec_slice.specs.Seen.{CoversElements, IsEmpty, IsRangeOf, IsWhole, Seen, shown}
use Rattle.bitvec_slice.specs.Touched.{touched_elements}
use Rattle.bitvec_slice.specs.TouchedLaws.{touched-bits}

module _ {T : Type 0} (b : ℕ) (at : ℕ → ℕ → ℕ) (value : T → ℕ) where
  -- Elements of `b` bits have `b` bits each, so that a memory has `b` times as many bits as elements.
  pub length-memory : (elements : List T) → length (memory_bits b at (map value elements)) ≡ b * length elements
  length-memory elements = length-memory_bits b at (map value elements) ∙ ap (λ (n : ℕ). b * n) (length-map elements value)

  -- A view of as many bits as all elements have, from the place 0 on, is a view of all.
  pub whole_view : (view : Seen T) (elements : List T) (n : ℕ) → view ≡ shown b at value elements 0 n → n ≡ b * length elements → IsWhole b at value elements view
  unfolding window_of
  whole_view view elements n is all =
      let long = length-memory elements in
      rw is (record { bits = range-all (memory_bits b at (map value elements)) (0 + n) (omega arith); elements = refl; memory = refl; start = refl; len = all })

  -- A view of all bits of no element is empty.
  pub no_view : (view : Seen T) → IsWhole b at value [] view → IsEmpty view
  no_view view is =
      let none : memory_bits b at [] ≡ [] = nil_from_length _ (length-memory_bits b at [] ∙ omega arith) in
      record { bits = is.bits ∙ none; elements = is.elements; memory = is.memory ∙ none; start = is.start; len = is.len ∙ omega arith }

  -- A view that covers its elements has all bits of the memory.
  pub covered_bits : (elements : List T) (start len : ℕ) → CoversElements b (shown b at value elements start len)
      → memory_bits b at (map value elements) ≡ (shown b at value elements start len).bits
  unfolding window_of
  covered_bits elements start len covers =
      let long = length-memory elements in
      let all = covers.len in
      sym (rw (covers.start) (range-all (memory_bits b at (map value elements)) (0 + len) (omega arith)))

  module _ (elements : List T) (start len : ℕ) (inside : start + len ≤ b * length elements) where
    -- A view's window lies in the bits of its elements.
    pub within_memory : IsWithin (shown b at value elements start len).window (length (memory_bits b at (map value elements)))
    within_memory = let long = length-memory elements in record { start = omega arith; len = omega arith }

    -- A view's window lies in a memory of at most `max_bits` bits.
    pub has_window : b * length elements ≤ max_bits → HasWindow b (map value elements) (shown b at value elements start len).window
    has_window bounded =
        let product = ap (λ (n : ℕ). b * n) (length-map elements value) in
        record { fits = omega arith; within = record { start = omega arith; len = omega arith } }

    -- A view has as many bits as its window.
    pub length_bits : length (shown b at value elements start len).bits ≡ len
    length_bits = length-window (memory_bits b at (map value elements)) (shown b at value elements start len).window within_memory

    -- A view of the elements that a range of a view's bits touches, at the range's place, is that range of the view.
    pub part_view : (part : Seen T) (from to : ℕ) → 0 < b → from ≤ to → to ≤ len
        → part ≡ shown b at value (touched_elements b elements (start + from) (start + to)) ((start + from) % b) (to - from) → IsRangeOf b (shown b at value elements start len) from to part
    unfolding window_of
    part_view part from to some order bound is =
        let xs = map value elements in
        let product = ap (λ (n : ℕ). b * n) (length-map elements value) in
        let long = length-memory elements in
        rw is (record {
          bits = ap (λ (ys : List ℕ). slice_range (memory_bits b at ys) ((start + from) % b) ((start + from) % b + (to - from))) (range-map value elements _ _)
              ∙ touched-bits b at xs (start + from) (start + to) (to - from) some (omega arith) (omega arith)
              ∙ sym (range-range (memory_bits b at xs) start (start + len) from to (omega arith) (omega arith));
          elements = refl;
          start = refl;
          len = refl;
        })
