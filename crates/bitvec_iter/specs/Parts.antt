-- What a part of a view shows, and the parts of a view that is cut into numbered pieces.
use Rattle.std.specs.Prelude.{ℕ, ◌+◌, ◌-◌, ◌*◌, ◌%◌, List, slice_range}
use Rattle.std.specs.declared.ops.Range.{Range}
use Rattle.bitvec_cutting.specs.Cutting.{cut}
use Rattle.bitvec_cutting.specs.Walks.{walk}
use Rattle.bitvec_slice.specs.Seen.{Seen}
use Rattle.bitvec_slice.specs.Touched.{end_touched, first_touched, touched_elements}

module _ {T : Type 0} (b : ℕ) (view : Seen T) where
  -- The view of the bits at these indices, with the elements of `b` bits that they touch.
  abbrev pub subview : Range ℕ → Seen T
  subview places =
      let start = view.window.start + places.start in
      let end = view.window.start + places.end in
      record {
        bits = cut view.bits places;
        elements = touched_elements b view.elements start end;
        memory = slice_range view.memory (first_touched b start * b) (end_touched b end * b);
        window = record { start = start % b; len = places.end - places.start };
      }

  -- The views of all pieces of a view that is cut so.
  abbrev pub parts_of : (ℕ → ℕ) → (ℕ → ℕ → Range ℕ) → List (Seen T)
  parts_of pieces place = walk (λ number. subview (place view.window.len number)) 0 (pieces view.window.len)
