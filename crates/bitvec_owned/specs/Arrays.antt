-- What contracts see of an array of bits, and what an edit of it leaves.
use Rattle.std.specs.Prelude.{◌≡◌, ℕ, ◌*◌, Bool, List, length, take}
use Rattle.bitvec_store.specs.declared.store.BitStore.{Ghosts as Store}
use Rattle.bitvec_base.specs.declared.order.BitOrder.{Ghosts as Order}
use Rattle.bitvec_slice.specs.Seen.{Seen, shown}
use Rattle.bitvec_owned.specs.declared.array.BitArray.{BitArray}

module _ {T O : Type 0} {N : ℕ} {t : Store T} {o : Order O} where
  -- its elements, of which there are N
  abbrev pub elements_of : BitArray T O N t o → List T
  elements_of a = take N a.elements

  -- what a view of all its bits shows
  abbrev pub in_array : BitArray T O N t o → Seen T
  in_array a = shown t.BITS o.at t.value (elements_of a) 0 (t.BITS * length (elements_of a))

  -- the array `after` is the array `before` with the bits `new`, which are all that its elements have
  pub record WritesArray (before after : BitArray T O N t o) (new : List Bool) : Type 0 where
    pub bits : (in_array after).bits ≡ new
    pub memory : (in_array after).memory ≡ new
    pub window : (in_array after).window ≡ (in_array before).window
    pub length : length (in_array after).elements ≡ length (in_array before).elements
