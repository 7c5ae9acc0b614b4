-- A split that lent the piece found last keeps the elements that the piece doesn't touch.
use Rattle.std.specs.Prelude.{ℕ, ◌+◌, ◌<◌, List, length}
use Rattle.std.proofs.Common.{arith}
use Rattle.bitvec_store.specs.declared.store.BitStore.{Ghosts as Store}
use Rattle.bitvec_base.specs.declared.order.BitOrder.{Ghosts as Order}
use Rattle.bitvec_domain.specs.Kept.{KeepsOutside}
use Rattle.bitvec_domain.specs.Refill.{with_range}
use Rattle.bitvec_domain.specs.RefillLaws.{refilled-keeps}
use Rattle.bitvec_slice.specs.Touched.{end_touched, first_touched}
use Rattle.bitvec_slice.specs.TouchedLaws.{touches}
use Rattle.bitvec_lent_split.specs.LentViews.{found_in, left_in}
use Rattle.bitvec_lent_split.specs.SplitsLending.{with_elements}
use Rattle.bitvec_lent_split.specs.declared.lending.SplitsMut.{SplitsMut}

module _ {T O P W L : Type 0} {t : Store T} {o : Order O} (s : SplitsMut T O P W L t o) where
  -- The index of the first element that the piece found last touches.
  abbrev pub first_of_found : ℕ
  first_of_found = first_touched t.BITS ((left_in s).view.window.start + (found_in s).start)

  -- The index past the last element that the piece found last touches.
  abbrev pub end_of_found : ℕ
  end_of_found = end_touched t.BITS ((left_in s).view.window.start + (found_in s).end)

  -- A split keeps the elements outside the piece that it found last, whatever was left in the piece's elements.
  pub found-keeps : (ws : List T) → 0 < t.BITS
      → KeepsOutside first_of_found end_of_found (left_in s).view.elements (left_in (with_elements s (with_range (left_in s).view.elements first_of_found end_of_found ws))).view.elements
  found-keeps ws some =
      let inside = s.inside in
      let ordered = s.ordered in
      let held = s.held in
      let is = touches t.BITS (length s.elements.now) (s.head + s.found.start) (s.head + s.found.end) some (omega arith) (omega arith) in
      refilled-keeps s.elements.now ws is.order is.bound
