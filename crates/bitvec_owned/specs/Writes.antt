-- What an edit of an owned sequence leaves.
use Rattle.std.specs.Prelude.{◌≡◌, ℕ, Bool, List, length}
use Rattle.bitvec_base.specs.Window.{write_window}
use Rattle.bitvec_base.specs.declared.order.BitOrder.{Ghosts as Order}
use Rattle.bitvec_slice.specs.Seen.{outside_of}
use Rattle.bitvec_store.specs.declared.store.BitStore.{Ghosts as Store}
use Rattle.bitvec_owned.specs.Copies.{Holds}
use Rattle.bitvec_owned.specs.Owned.{bit_capacity, owned}
use Rattle.bitvec_owned.specs.declared.bit_vec.BitVec.{BitVec}

module _ {T O A : Type 0} {t : Store T} {o : Order O} where
  -- the sequence `after` is the sequence `before` with the bits `new`: in its window of the memory they stand, and the places outside, the window itself,
  -- how many elements there are and the capacity stay; so one that held a list, with zeros around it, holds `new` there
  pub record WritesOwned (before after : BitVec T O A t o) (new : List Bool) : Type 0 where
    pub bits : (owned after).bits ≡ new
    pub outside : outside_of (owned after) ≡ outside_of (owned before)
    pub memory : (owned after).memory ≡ write_window (owned before).memory (owned before).window new
    pub window : (owned after).window ≡ (owned before).window
    pub length : length (owned after).elements ≡ length (owned before).elements
    pub capacity : bit_capacity after ≡ bit_capacity before
    pub holds : (list : List Bool) (from : ℕ) → Holds t.BITS list from (owned before) → Holds t.BITS new from (owned after)
