-- A side of a view that shares no element with the other.
use Rattle.std.specs.Prelude.{◌≡◌, ℕ, ◌-◌, ◌<◌, slice_range}
use Rattle.bitvec_slice.specs.Seen.{IsRangeOf, Seen}

-- the side has the view's bits from the index `from` up to, without, `to`, and if there are any the elements that
-- they touch
pub record IsSideOf {T : Type 0} (b : ℕ) (view : Seen T) (from to : ℕ) (side : Seen T) : Type 0 where
  pub bits : side.bits ≡ slice_range view.bits from to
  pub len : side.window.len ≡ to - from
  pub range : from < to → IsRangeOf b view from to side
