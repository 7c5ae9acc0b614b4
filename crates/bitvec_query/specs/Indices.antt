-- What a walk over the places of a bit has still to give.
use Rattle.std.specs.Prelude.{ℕ, List}
use Rattle.std.specs.Iterator.{YieldsFirst, YieldsLast}
use Rattle.std.specs.Iterator.Runs.{YieldsInOrder, YieldsInReverse}
use Rattle.bitvec_store.specs.declared.store.BitStore.{Ghosts as Store}
use Rattle.bitvec_base.specs.declared.order.BitOrder.{Ghosts as Order}
use Rattle.bitvec_slice.specs.Views.{seen}
use Rattle.bitvec_places.specs.Places.{places_left}
use Rattle.bitvec_query.specs.declared.places.Places.{Places}
use Rattle.bitvec_query.specs.declared.wanted.Wanted.{Ghosts as Bits}

module _ {T O W : Type 0} {t : Store T} {o : Order O} {w : Bits W} where
  -- The indices of the wanted bit that a walk, such as `iter_ones` of `bitvec`, has still to give.
  unfoldable pub remaining_indices : Places T O W t o w → List ℕ
  remaining_indices walk = places_left w.BIT (seen walk.view).bits walk.rest

  -- Calls of `next` give the indices still to come in order.
  abbrev pub RunsInOrder : Places T O W t o w → Type 0
  RunsInOrder walk = YieldsInOrder (YieldsFirst remaining_indices) remaining_indices

  -- Calls of `next_back` give the indices still to come from the last one down.
  abbrev pub RunsInReverse : Places T O W t o w → Type 0
  RunsInReverse walk = YieldsInReverse (YieldsLast remaining_indices) remaining_indices
