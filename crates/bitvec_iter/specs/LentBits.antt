-- A writable walk over single bits, as contracts see it.
use Rattle.std.specs.Prelude.{◌≡◌, ℕ, ◌+◌, ◌-◌, Bool, List, length, min, slice_range}
use Rattle.std.specs.Borrow.{GName}
use Rattle.bitvec_store.specs.declared.store.BitStore.{Ghosts as Store}
use Rattle.bitvec_base.specs.declared.order.BitOrder.{Ghosts as Order}
use Rattle.bitvec_slice.specs.Seen.{Seen, shown}
use Rattle.bitvec_base.specs.Window.{write_at}
use Rattle.bitvec_iter.specs.declared.lent_bits.IterMut.{IterMut}

-- the view, and which of its indices are left, from `front` up to `back`
pub record BitsLeft (T : Type 0) : Type 0 where
  pub view : Seen T
  pub front : ℕ
  pub back : ℕ

module _ {T : Type 0} where
  -- The walk has all bits of the view left.
  pub record IsAllOf (all : Seen T) (walk : BitsLeft T) : Type 0 where
    pub view : walk.view ≡ all
    pub front : walk.front ≡ 0
    pub back : walk.back ≡ all.window.len

  -- The index of the first bit left, or the walk's end where none is left.
  abbrev pub start_of : BitsLeft T → ℕ
  start_of walk = min walk.front walk.back

  -- The bits that the walk has left.
  abbrev pub bits_to_come : BitsLeft T → List Bool
  bits_to_come walk = slice_range walk.view.bits (start_of walk) walk.back

  -- The bits that stand, once the walk is `after`, where its bits left stood.
  abbrev pub bits_in_place : BitsLeft T → BitsLeft T → List Bool
  bits_in_place walk after = slice_range after.view.bits (start_of walk) walk.back

  -- the bits that were left are `new`, in the view and in its memory, where all others are as before, and none is left
  pub record WritesLeft (walk after : BitsLeft T) (new : List Bool) : Type 0 where
    pub bits : after.view.bits ≡ write_at walk.view.bits (start_of walk) new
    pub memory : after.view.memory ≡ write_at walk.view.memory (walk.view.window.start + start_of walk) new
    pub window : after.view.window ≡ walk.view.window
    pub elements : length after.view.elements ≡ length walk.view.elements
    pub long : length new ≡ walk.back - start_of walk
    pub front : after.front ≡ walk.back
    pub back : after.back ≡ walk.back

  -- The walk without its first `count` bits, or without all where it has fewer.
  abbrev pub past_bits : BitsLeft T → ℕ → BitsLeft T
  past_bits walk count = record walk { front = walk.front + min count (walk.back - walk.front) }

  -- The walk without its last `count` bits, or without all where it has fewer.
  abbrev pub past_back_bits : BitsLeft T → ℕ → BitsLeft T
  past_back_bits walk count = record walk { back = walk.back - min count (walk.back - walk.front) }

module _ {T O : Type 0} {t : Store T} {o : Order O} where
  -- What contracts see of a writable walk over single bits: its view, and the indices left.
  abbrev pub bit_walk_of : IterMut T O t o → BitsLeft T
  bit_walk_of i = record { view = shown t.BITS o.at t.value i.elements.now i.head i.len; front = i.front; back = i.back }

  -- The name among borrows of the memory that the walk borrows.
  abbrev pub name_of_bits : IterMut T O t o → GName
  name_of_bits i = i.elements.ghost_name
