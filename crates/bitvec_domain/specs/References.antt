-- What contracts see of one bit of a view, and what a call that writes it leaves.
use Rattle.std.specs.Prelude.{◌≡◌, ℕ, Bool, codes, if◌then◌else◌, List, [], ◌∷◌, false, map, slice_index_or}
use Rattle.std.specs.Borrow.{GName, MutBor}
use Rattle.bitvec_base.specs.Memory.{memory_bits, Writes}
use Rattle.bitvec_base.specs.Window.{bit_window}
use Rattle.bitvec_base.specs.declared.window.Window.{Window}
use Rattle.bitvec_store.specs.declared.store.BitStore.{Ghosts as Store}
use Rattle.bitvec_base.specs.declared.order.BitOrder.{Ghosts as Order}
use Rattle.bitvec_domain.specs.declared.reference.BitRef.{BitRef}
use Rattle.bitvec_domain.specs.declared.reference_mut.BitRefMut.{BitRefMut}

-- The bit that a `BitRef` reads.
abbrev pub bit_of_ref : {T O : Type 0} → BitRef T O → Bool
bit_of_ref r = r.bit.now

module _ {T O : Type 0} {t : Store T} {o : Order O} where
  -- The elements of the memory that a `BitRefMut` borrows.
  abbrev pub elements_of_ref_mut : BitRefMut T O t o → List T
  elements_of_ref_mut r = r.elements.now

  -- All bits of the elements that a `BitRefMut` borrows.
  unfoldable pub memory_of_ref_mut : BitRefMut T O t o → List Bool
  memory_of_ref_mut r = memory_bits t.BITS o.at (map t.value r.elements.now)

  -- The place, in bits, at which the bit stands in its memory.
  abbrev pub place_of_ref_mut : BitRefMut T O t o → ℕ
  place_of_ref_mut r = r.place

  -- The window of the one bit in its memory.
  abbrev pub window_of_ref_mut : BitRefMut T O t o → Window
  window_of_ref_mut r = bit_window r.place

  -- The bit that a `BitRefMut` writes, as it is now.
  unfoldable pub bit_of_ref_mut : BitRefMut T O t o → Bool
  bit_of_ref_mut r = slice_index_or (memory_of_ref_mut r) r.place false

  -- The name among borrows of the memory that a `BitRefMut` borrows.
  abbrev pub name_of_ref_mut : BitRefMut T O t o → GName
  name_of_ref_mut r = r.elements.ghost_name

  -- the reference `after` is the reference `before` with its bit made `new`: every other bit of the
  -- memory, the place and the memory that is borrowed stay
  pub record WritesBit (before after : BitRefMut T O t o) (new : Bool) : Type 0 where
    pub bit : bit_of_ref_mut after ≡ new
    pub writes : Writes t.BITS o.at (map t.value (elements_of_ref_mut before)) (map t.value (elements_of_ref_mut after)) (window_of_ref_mut before) (new ∷ [])
    pub place : place_of_ref_mut after ≡ place_of_ref_mut before
    pub name : name_of_ref_mut after ≡ name_of_ref_mut before

-- The elements that a borrowed memory has at the call at which the borrow ends.
abbrev pub elements_left : {T X : Type 0} → MutBor (List T) × X → List T
elements_left (elements, rest) = elements.now

-- The text of a bit as a truth value: `true` or `false`.
abbrev pub truth_text : Bool → List ℕ
truth_text bit = if bit then codes "true" else codes "false"
