-- What a type of one's own shows that holds elements.
use Rattle.std.specs.Prelude.{ℕ, ◌-◌, ◌*◌, ◌%◌, List, length}
use Rattle.bitvec_slice.specs.Seen.{Seen, shown}
use Rattle.bitvec_slice.specs.Touched.{touched_elements}

module _ {T : Type 0} (b : ℕ) (at : ℕ → ℕ → ℕ) (value : T → ℕ) where
  -- `shown_all b at value elements` is what a view of all bits of some elements of `b` bits shows.
  abbrev pub shown_all : List T → Seen T
  shown_all elements = shown b at value elements 0 (b * length elements)

  -- `shown_range b at value elements from to` is what a view of the bits `from..to` shows, in the elements that these touch.
  abbrev pub shown_range : List T → ℕ → ℕ → Seen T
  shown_range elements from to = shown b at value (touched_elements b elements from to) (from % b) (to - from)
