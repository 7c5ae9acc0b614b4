-- The numbers of a view's bits, and what a store of one leaves.
use Rattle.std.specs.Prelude.{ℕ, Bool}
use Rattle.bitvec_store.specs.declared.store.BitStore.{Ghosts as Store}
use Rattle.bitvec_base.specs.declared.order.BitOrder.{Ghosts as Order}
use Rattle.bitvec_segments.specs.Segments.{loaded_be, loaded_le, stored_be, stored_le}
use Rattle.bitvec_slice.specs.Seen.{Seen}
use Rattle.bitvec_slice.specs.Views.{seen_mut}
use Rattle.bitvec_slice.specs.Writes.{WritesBits}
use Rattle.bitvec_slice.specs.declared.view_mut.BitSliceMut.{BitSliceMut}

module _ {T : Type 0} (high : Bool) (b : ℕ) where
  -- The number that `load_le` of `bitvec` gives for a view's bits: the first element is the lowest.
  abbrev pub number_le : Seen T → ℕ
  number_le view = loaded_le high b view.window.start view.bits

  -- The number that `load_be` of `bitvec` gives for a view's bits: the first element is the highest.
  abbrev pub number_be : Seen T → ℕ
  number_be view = loaded_be high b view.window.start view.bits

module _ {T O : Type 0} {t : Store T} {o : Order O} (high : Bool) (b : ℕ) where
  -- The view was written with the bits that a little-endian store of the number leaves, and all other bits are as before.
  abbrev pub writes_number_le : BitSliceMut T O t o → BitSliceMut T O t o → ℕ → Type 0
  writes_number_le before after v = WritesBits before after (stored_le high b (seen_mut before).window.start v (seen_mut before).bits)

  -- The view was written with the bits that a big-endian store of the number leaves, and all other bits are as before.
  abbrev pub writes_number_be : BitSliceMut T O t o → BitSliceMut T O t o → ℕ → Type 0
  writes_number_be before after v = WritesBits before after (stored_be high b (seen_mut before).window.start v (seen_mut before).bits)
