-- A writable walk over pieces, as contracts see it.
use Rattle.std.specs.Borrow.{GName}
use Rattle.bitvec_store.specs.declared.store.BitStore.{Ghosts as Store}
use Rattle.bitvec_base.specs.declared.order.BitOrder.{Ghosts as Order}
use Rattle.bitvec_cutting.specs.declared.cutting.Cutting.{Ghosts as Cuts}
use Rattle.bitvec_slice.specs.Seen.{shown}
use Rattle.bitvec_iter.specs.LentWalk.{Walk}
use Rattle.bitvec_iter.specs.declared.lent_pieces.PiecesMut.{PiecesMut}

module _ {T O C : Type 0} {t : Store T} {o : Order O} {c : Cuts C} where
  -- What contracts see of a writable walk over pieces: its view, its way to cut, and the numbers left.
  abbrev pub walk_of : PiecesMut T O C t o c → Walk T C
  walk_of p = record { view = shown t.BITS o.at t.value p.elements.now p.head p.len; cutting = p.cutting; front = p.front; back = p.back; taken = p.taken }

  -- The name among borrows of the memory that the walk borrows.
  abbrev pub name_of_pieces : PiecesMut T O C t o c → GName
  name_of_pieces p = p.elements.ghost_name
