-- The two halves of a view that is cut at an element's edge.
use Rattle.std.specs.Prelude.{◌≡◌, ℕ, ◌+◌, ◌-◌, ◌*◌, ◌/◌, ◌%◌, ◌≤◌, List, drop, length, min, slice_range, take}
use Rattle.std.proofs.Common.{arith, sym, ◌∙◌, ap}
use Rattle.bitvec_base.specs.SliceLaws.{range-rest, range-to_end}
use Rattle.bitvec_store.specs.Width.{IsWidth}
use Rattle.bitvec_store.specs.WidthLaws.{width_some}
use Rattle.bitvec_slice.specs.Seen.{IsRangeOf, Seen, shown}
use Rattle.bitvec_slice.specs.SeenLaws.{part_view}
use Rattle.bitvec_slice.specs.Touched.{end_touched, first_touched, touched_elements}

module _ {T : Type 0} (b : ℕ) (at : ℕ → ℕ → ℕ) (value : T → ℕ) (elements : List T) (start len : ℕ) (inside : start + len ≤ b * length elements)
    (part : Seen T) (mid : ℕ) (wide : IsWidth b) (bound : mid ≤ len) (edge : (start + mid) % b ≡ 0) where
  -- the elements before the one that the index `mid` begins
  abbrev front_of : List T
  front_of = take ((start + mid) / b) elements

  pub front-half : part ≡ shown b at value (slice_range front_of (start / b) (length front_of)) (start % b) mid → IsRangeOf b (shown b at value elements start len) 0 mid part
  front-half is =
      let first : start ≡ start + 0 = omega arith in
      let all : mid ≡ mid - 0 = omega arith in
      let last : (start + mid) / b ≡ end_touched b (start + mid) = omega (arith, ap (λ (r : ℕ). min 1 r) edge) in
      part_view b at value elements start len inside part 0 mid (width_some b wide) (omega arith) bound (
      is ∙ ap (λ (xs : List T). shown b at value xs (start % b) mid) (range-to_end front_of (start / b) (length front_of) (omega arith) ∙ range-rest elements (start / b) ((start + mid) / b))
      ∙ ap (λ (s : ℕ). shown b at value (slice_range elements (first_touched b s) ((start + mid) / b)) (s % b) mid) first
      ∙ ap (λ (e : ℕ). shown b at value (slice_range elements (first_touched b (start + 0)) e) ((start + 0) % b) mid) last
      ∙ ap (λ (n : ℕ). shown b at value (touched_elements b elements (start + 0) (start + mid)) ((start + 0) % b) n) all)

  pub rest-half : part ≡ shown b at value (take (end_touched b (start + len) - (start + mid) / b) (drop ((start + mid) / b) elements)) 0 (len - mid)
      → IsRangeOf b (shown b at value elements start len) mid len part
  rest-half is = part_view b at value elements start len inside part mid len (width_some b wide) bound (omega arith) (
      is ∙ ap (λ (s : ℕ). shown b at value (touched_elements b elements (start + mid) (start + len)) s (len - mid)) (sym edge))
