-- What contracts see of two halves of a view.
use Rattle.std.specs.Prelude.{◌≡◌, ℕ}
use Rattle.std.specs.Borrow.{GName}
use Rattle.bitvec_store.specs.declared.store.BitStore.{Ghosts as Store}
use Rattle.bitvec_base.specs.declared.order.BitOrder.{Ghosts as Order}
use Rattle.bitvec_slice.specs.Seen.{Seen, shown}
use Rattle.bitvec_iter.specs.declared.lent_halves.HalvesMut.{HalvesMut}

module _ {T O : Type 0} {t : Store T} {o : Order O} where
  -- the view that was cut
  abbrev pub seen_halves : HalvesMut T O t o → Seen T
  seen_halves h = shown t.BITS o.at t.value h.elements.now h.head h.len

  -- the index where its halves meet
  abbrev pub mid_of : HalvesMut T O t o → ℕ
  mid_of h = h.mid

  -- which memory they borrow, by its name among borrows
  abbrev pub name_of_halves : HalvesMut T O t o → GName
  name_of_halves h = h.elements.ghost_name

  -- The halves are those of the view, and meet at the index `mid`.
  pub record IsCutOf (all : Seen T) (mid : ℕ) (h : HalvesMut T O t o) : Type 0 where
    pub view : seen_halves h ≡ all
    pub cut : mid_of h ≡ mid
