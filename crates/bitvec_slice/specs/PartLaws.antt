-- The elements that a range of a view's bits touches, and a view of that range over them.
use Rattle.std.specs.Prelude.{◌≡◌, ℕ, ◌*◌, ◌+◌, ◌≤◌, List, length, slice_range, refl}
use Rattle.bitvec_base.specs.declared.window.Window.{Window}
use Rattle.bitvec_domain.specs.Refill.{with_range}
use Rattle.bitvec_slice.specs.declared.touching.TouchedPart.{TouchedPart}
use Rattle.bitvec_slice.specs.Seen.{IsRangeOf, Seen, shown}
use Rattle.bitvec_slice.specs.SeenLaws.{part_view}
use Rattle.bitvec_slice.specs.Touched.{IsTouchedPart, end_touched, first_touched}
use Rattle.bitvec_slice.specs.TouchedLaws.{touched_few, touched_holds}

module _ {X : Type 0} {b : ℕ} (xs : List X) {window : Window} {from to : ℕ} {part : TouchedPart} (is : IsTouchedPart b (length xs) window from to part) where
  -- What is left in a range's elements is left in their lender.
  pub part-left : {Y : Type 0} (end_as : List X → Y) (ws : List X)
      → end_as (with_range xs part.first part.end ws) ≡ end_as (with_range xs (first_touched b (window.start + from)) (end_touched b (window.start + to)) ws)
  part-left end_as ws = rw (is.first, is.end) refl

  module _ {ys : List X} (are : ys ≡ slice_range xs part.first part.end) where
    -- The elements have room for the range's bits from its index in the first of them on.
    pub part-holds : part.head + part.len ≤ b * length ys
    part-holds = rw (are, is.first, is.end, is.head, is.len) (touched_holds b xs window.start window.len from to is.some is.inside is.order is.bound)

    -- The elements have at most as many bits as the view's.
    pub part-few : {most : ℕ} → b * length xs ≤ most → b * length ys ≤ most
    part-few {most} few = rw (are, is.first, is.end) (touched_few b xs window.start window.len from to is.some is.inside is.order is.bound most few)

    -- A view of as many bits over them, from that index on, is the range of the view.
    pub part-shown : (at : ℕ → ℕ → ℕ) (value : X → ℕ) {view : Seen X} → view ≡ shown b at value ys part.head part.len → IsRangeOf b (shown b at value xs window.start window.len) from to view
    part-shown at value {view} seen =
        part_view b at value xs window.start window.len is.inside view from to is.some is.order is.bound (rw (are, is.first, is.end, is.head, is.len) at seen)
