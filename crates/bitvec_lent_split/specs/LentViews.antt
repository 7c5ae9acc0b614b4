-- What contracts see of the splits that lend.
use Rattle.std.specs.Prelude.{ℕ}
use Rattle.std.specs.Borrow.{GName}
use Rattle.std.specs.declared.ops.Range.{Range}
use Rattle.bitvec_store.specs.declared.store.BitStore.{Ghosts as Store}
use Rattle.bitvec_base.specs.declared.order.BitOrder.{Ghosts as Order}
use Rattle.bitvec_slice.specs.Seen.{shown}
use Rattle.bitvec_lent_split.specs.SplitStates.{left_on, limited_on}
use Rattle.bitvec_lent_split.specs.Lent.{LeftIn, LimitedSplitIn}
use Rattle.bitvec_lent_split.specs.declared.lending.SplitsMut.{SplitsMut}

module _ {T O P W L : Type 0} {t : Store T} {o : Order O} where
  -- What a lending split has left.
  abbrev pub left_in : SplitsMut T O P W L t o → LeftIn T P
  left_in s = left_on (shown t.BITS o.at t.value s.elements.now s.head s.len) s.state

  -- What a lending split with a limit has left, and how many pieces it may still lend.
  abbrev pub limited_in : SplitsMut T O P W L t o → LimitedSplitIn T P
  limited_in s = limited_on (shown t.BITS o.at t.value s.elements.now s.head s.len) s.state

  -- The range of the piece that the split found last.
  abbrev pub found_in : SplitsMut T O P W L t o → Range ℕ
  found_in s = s.found

  -- The name among borrows of the memory that a lending split borrows.
  abbrev pub name_of_splits : SplitsMut T O P W L t o → GName
  name_of_splits s = s.elements.ghost_name
