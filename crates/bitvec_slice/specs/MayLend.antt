-- A call that lends a part of a writable view, if the view has it: what it gives, and what the view ends as.
use Rattle.std.specs.Prelude.{◌≡◌, ℕ, ◌+◌, Bool, false, if◌then◌else◌, slice_index_or}
use Rattle.std.specs.Borrow.{Fml, GName, MutBor, RattleType}
use Rattle.std.specs.declared.ops.Range.{Range}
use Rattle.bitvec_store.specs.declared.store.BitStore.{Ghosts as Store}
use Rattle.bitvec_base.specs.declared.order.BitOrder.{Ghosts as Order}
use Rattle.bitvec_domain.specs.References.{bit_of_ref_mut, elements_of_ref_mut, name_of_ref_mut, place_of_ref_mut}
use Rattle.bitvec_domain.specs.declared.reference_mut.BitRefMut.{BitRefMut}
use Rattle.bitvec_slice.specs.Touched.{end_touched, first_touched}
use Rattle.bitvec_slice.specs.Lending.{lends_part}
use Rattle.bitvec_slice.specs.Views.{name_of, seen_mut}
use Rattle.bitvec_slice.specs.declared.lent.Lent.{Lent}
use Rattle.bitvec_slice.specs.declared.view_mut.BitSliceMut.{BitSliceMut}

-- Whether something was lent.
abbrev pub is_lent : {P : Type 0} → Lent P → Bool
is_lent l = l.has

-- The piece that was lent, which is empty where nothing was.
abbrev pub piece_of : {P : Type 0} → Lent P → P
piece_of l = l.piece

-- The reference writes the first bit of this view, and borrows the view's elements.
pub record IsBitOfView {T O : Type 0} {t : Store T} {o : Order O} (view : BitSliceMut T O t o) (r : BitRefMut T O t o) : Type 0 where
  pub bit : bit_of_ref_mut r ≡ slice_index_or (seen_mut view).bits 0 false
  pub place : place_of_ref_mut r ≡ (seen_mut view).window.start
  pub elements : elements_of_ref_mut r ≡ (seen_mut view).elements
  pub name : name_of_ref_mut r ≡ name_of view

-- where `has` holds, the elements that v's bits of the range touch were lent under this name, and else none of them
abbrev pub lends_bits_if : (T O : RattleType) {t : Store T.Denot} {o : Order O.Denot} → MutBor (BitSliceMut T.Denot O.Denot t o) → Bool → Range ℕ → GName → Fml
lends_bits_if T O {t} {o} v has range name =
    lends_part T O v (if has then first_touched t.BITS (v.now.head + range.start) else 0) (if has then end_touched t.BITS (v.now.head + range.end) else 0) name
