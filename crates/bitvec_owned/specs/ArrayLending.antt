-- What an array of bits ends as where its elements were lent.
use Rattle.std.specs.Prelude.{ℕ, List}
use Rattle.std.specs.Borrow.{Fml, GName, MutBor, RattleType, Array, follows}
use Rattle.bitvec_store.specs.declared.store.BitStore.{Ghosts as Store}
use Rattle.bitvec_base.specs.declared.order.BitOrder.{Ghosts as Order}
use Rattle.bitvec_owned.specs.declared.array.BitArray.{BitArray}
use Rattle.bitvec_owned.specs.contracts.array.BitArray.{the_row}

module _ {T O : Type 0} {N : ℕ} {t : Store T} {o : Order O} where
  -- The array with these elements.
  abbrev pub with_elements : BitArray T O N t o → List T → BitArray T O N t o
  with_elements a xs = record a { elements = xs }

-- The array's elements were lent under this name among borrows, and it ends with what is left there.
abbrev pub lends : (T O N : RattleType) {t : Store T.Denot} {o : Order O.Denot} → MutBor (the_row T O N t o).Denot → GName → Fml
lends T O N {t} {o} a name = follows (the_row T O N t o) (Array T 0) a.ghost_name name (with_elements a.now)
