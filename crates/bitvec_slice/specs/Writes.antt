-- What a call that writes a view leaves.
use Rattle.std.specs.Prelude.{◌≡◌, Bool, List, length}
use Rattle.bitvec_base.specs.Window.{write_window}
use Rattle.bitvec_store.specs.declared.store.BitStore.{Ghosts as Store}
use Rattle.bitvec_base.specs.declared.order.BitOrder.{Ghosts as Order}
use Rattle.bitvec_slice.specs.Seen.{outside_of}
use Rattle.bitvec_slice.specs.Views.{name_of, seen_mut}
use Rattle.bitvec_slice.specs.declared.view_mut.BitSliceMut.{BitSliceMut}

module _ {T O : Type 0} {t : Store T} {o : Order O} where
  -- the view `after` is the view `before` with the bits `new`: in its window of the memory they
  -- stand, and the places outside, the window itself and the memory that is borrowed stay
  pub record WritesBits (before after : BitSliceMut T O t o) (new : List Bool) : Type 0 where
    pub bits : (seen_mut after).bits ≡ new
    pub outside : outside_of (seen_mut after) ≡ outside_of (seen_mut before)
    pub memory : (seen_mut after).memory ≡ write_window (seen_mut before).memory (seen_mut before).window new
    pub window : (seen_mut after).window ≡ (seen_mut before).window
    pub length : length (seen_mut after).elements ≡ length (seen_mut before).elements
    pub name : name_of after ≡ name_of before
