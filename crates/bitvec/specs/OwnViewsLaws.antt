-- What a type of one's own shows lies in its elements; and its bits, by those of the array.
use Rattle.std.specs.Prelude.{◌≡◌, ℕ, ◌+◌, ◌-◌, ◌*◌, ◌%◌, ◌<◌, ◌≤◌, List, length, map, slice_range}
use Rattle.std.proofs.Common.{arith, sym, ◌∙◌, ap, zero-add}
use Rattle.std.proofs.lemmas.List.{length-map}
use Rattle.bitvec_base.specs.Memory.{memory_bits}
use Rattle.bitvec_base.specs.SliceLaws.{range-all, range-map}
use Rattle.bitvec_base.specs.Window.{max_bits, window_of}
use Rattle.bitvec_in_place.specs.FrontLaws.{front-range}
use Rattle.bitvec_in_place.specs.Fronts.{front_bits}
use Rattle.bitvec_in_place.specs.Ranges.{HasBits, bits_in}
use Rattle.bitvec_slice.specs.SeenLaws.{length-memory}
use Rattle.bitvec_slice.specs.Showing.{ShowsElements, shows_elements}
use Rattle.bitvec_slice.specs.Touched.{touched_elements}
use Rattle.bitvec_slice.specs.TouchedLaws.{touched-bits, touched_few, touched_holds}
use Rattle.bitvec.specs.OwnViews.{shown_all, shown_range}

module _ {T : Type 0} (b : ℕ) (at : ℕ → ℕ → ℕ) (value : T → ℕ) (elements : List T) where
  -- ---- all bits

  -- A view may show all bits of some elements, where these are at most `max_bits`.
  pub shows-all : b * length elements ≤ max_bits → ShowsElements b at value (shown_all b at value elements)
  shows-all few = shows_elements b at value elements 0 (b * length elements) (omega arith) few

  -- The bits that `shown_all` shows are those of the elements.
  pub bits-all : memory_bits b at (map value elements) ≡ (shown_all b at value elements).bits
  unfolding window_of
  bits-all = let long = length-memory b at value elements in sym (range-all (memory_bits b at (map value elements)) (0 + b * length elements) (omega arith))

  -- ---- the bits of a range

  module _ (from to : ℕ) (some : 0 < b) (has : HasBits b (length elements) from to) where
    -- A view may show the bits of a range in the elements that these touch.
    pub shows-range : ShowsElements b at value (shown_range b at value elements from to)
    shows-range =
        shows_elements b at value (touched_elements b elements from to) (from % b) (to - from)
        (simp zero-add at (touched_holds b elements 0 (b * length elements) from to some (omega arith) has.order has.inside))
        (simp zero-add at (touched_few b elements 0 (b * length elements) from to some (omega arith) has.order has.inside max_bits has.fits))

    -- The bits that `shown_range` shows are those of the range `from..to` of the elements' bits.
    pub bits-range : bits_in (memory_bits b at (map value elements)) from to ≡ (shown_range b at value elements from to).bits
    unfolding window_of bits_in
    bits-range =
        let xs = map value elements in
        let product = ap (λ (n : ℕ). b * n) (length-map elements value) in
        let order = has.order in
        let inside = has.inside in
        sym (ap (λ (ys : List ℕ). slice_range (memory_bits b at ys) (from % b) (from % b + (to - from))) (range-map value elements _ _)
        ∙ touched-bits b at xs from to (to - from) some (omega arith) (omega arith))

  -- The bits that `shown_range` of `0..n` shows are the first `n` of the elements' bits.
  pub bits-front : (n : ℕ) → 0 < b → HasBits b (length elements) 0 n → front_bits (memory_bits b at (map value elements)) n ≡ (shown_range b at value elements 0 n).bits
  unfolding bits_in
  bits-front n some has = sym (front-range (memory_bits b at (map value elements)) n) ∙ bits-range 0 n some has
