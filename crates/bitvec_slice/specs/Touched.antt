-- Which elements of a memory a range of its places touches, where an element has b bits.
use Rattle.std.specs.Prelude.{◌≡◌, ℕ, ◌+◌, ◌-◌, ◌*◌, ◌/◌, ◌%◌, ◌<◌, ◌≤◌, List, slice_range}
use Rattle.std.specs.Int.{div_ceil}
use Rattle.bitvec_base.specs.declared.window.Window.{Window}
use Rattle.bitvec_slice.specs.declared.touching.TouchedPart.{TouchedPart}

-- The index of the element of `b` bits that has the place `start`.
abbrev pub first_touched : ℕ → ℕ → ℕ
first_touched b start = start / b

-- The index past the last element of `b` bits that has a place below `end`.
abbrev pub end_touched : ℕ → ℕ → ℕ
end_touched b end = div_ceil end b

-- the elements that the places from `start` up to `end` touch
abbrev pub touched_elements : {X : Type 0} → ℕ → List X → ℕ → ℕ → List X
touched_elements b xs start end = slice_range xs (first_touched b start) (end_touched b end)

-- the part is where the bits from `from` up to `to` of the window lie, which some of n elements of b bits have
pub record IsTouchedPart (b n : ℕ) (window : Window) (from to : ℕ) (part : TouchedPart) : Type 0 where
  pub some : 0 < b
  pub inside : window.start + window.len ≤ b * n
  pub order : from ≤ to
  pub bound : to ≤ window.len
  pub first : part.first ≡ first_touched b (window.start + from)
  pub end : part.end ≡ end_touched b (window.start + to)
  pub head : part.head ≡ (window.start + from) % b
  pub len : part.len ≡ to - from
