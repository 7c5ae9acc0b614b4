-- What an owned sequence ends as where its bits were lent.
use Rattle.std.specs.Prelude.{List}
use Rattle.std.specs.Borrow.{Fml, GName, MutBor, RattleType, Array, follows}
use Rattle.std.specs.Vec.{with_items}
use Rattle.std.specs.declared.alloc.Allocator.{Ghosts as Alloc}
use Rattle.bitvec_store.specs.declared.store.BitStore.{Ghosts as Store}
use Rattle.bitvec_base.specs.declared.order.BitOrder.{Ghosts as Order}
use Rattle.bitvec_owned.specs.declared.bit_vec.BitVec.{BitVec}
use Rattle.bitvec_owned.specs.contracts.bit_vec.BitVec.{the_row}

module _ {T O A : Type 0} {t : Store T} {o : Order O} where
  -- the sequence as before, but for its elements, which are xs, cut or filled up to as many as before
  abbrev pub with_elements : BitVec T O A t o → List T → BitVec T O A t o
  with_elements v xs = record v { elements = with_items v.elements xs }

-- v's elements were lent under this name among borrows, and v ends with what is left there
abbrev pub lends : (T O A : RattleType) {t : Store T.Denot} {o : Order O.Denot} → Alloc A.Denot → MutBor (BitVec T.Denot O.Denot A.Denot t o) → GName → Fml
lends T O A {t} {o} alloc v name = follows (the_row T O A t o alloc) (Array T 0) v.ghost_name name (with_elements v.now)
