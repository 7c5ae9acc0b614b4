-- What contracts see of the two types of views.
use Rattle.std.specs.Prelude.{◌≡◌, List}
use Rattle.std.specs.Borrow.{GName}
use Rattle.bitvec_store.specs.declared.store.BitStore.{Ghosts as Store}
use Rattle.bitvec_base.specs.declared.order.BitOrder.{Ghosts as Order}
use Rattle.bitvec_slice.specs.Seen.{IsWhole, Seen, shown}
use Rattle.bitvec_slice.specs.declared.view.BitSlice.{BitSlice}
use Rattle.bitvec_slice.specs.declared.view_mut.BitSliceMut.{BitSliceMut}

module _ {T O : Type 0} {t : Store T} {o : Order O} where
  -- What a shared view, `&BitSlice` of `bitvec`, shows.
  abbrev pub seen : BitSlice T O t o → Seen T
  seen v = shown t.BITS o.at t.value v.elements.now v.head v.len

  -- What a writable view, `&mut BitSlice` of `bitvec`, shows.
  abbrev pub seen_mut : BitSliceMut T O t o → Seen T
  seen_mut v = shown t.BITS o.at t.value v.elements.now v.head v.len

  -- The name among borrows of the memory that a writable view borrows.
  abbrev pub name_of : BitSliceMut T O t o → GName
  name_of v = v.elements.ghost_name

  -- The view has all bits of the elements, which are borrowed under this name.
  pub record IsWholeOf (elements : List T) (lender : GName) (v : BitSliceMut T O t o) : Type 0 where
    pub whole : IsWhole t.BITS o.at t.value elements (seen_mut v)
    pub name : name_of v ≡ lender
