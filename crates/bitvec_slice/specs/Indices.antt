-- What a view has at an index, and which ranges of indices it has.
use Rattle.std.specs.Prelude.{◌≡◌, ℕ, ◌+◌, ◌%◌, ◌<◌, ◌≤◌, false, slice_index_or}
use Rattle.std.specs.Range.{range_inclusive_start, range_inclusive_end}
use Rattle.std.specs.declared.ops.Range.{Range}
use Rattle.std.specs.declared.ops.RangeInclusive.{RangeInclusive}
use Rattle.bitvec_store.specs.declared.store.BitStore.{Ghosts as Store}
use Rattle.bitvec_base.specs.declared.order.BitOrder.{Ghosts as Order}
use Rattle.bitvec_slice.specs.Seen.{Seen}
use Rattle.bitvec_slice.specs.Touched.{touched_elements}
use Rattle.bitvec_domain.specs.References.{bit_of_ref, bit_of_ref_mut, elements_of_ref_mut, place_of_ref_mut}
use Rattle.bitvec_domain.specs.declared.reference.BitRef.{BitRef}
use Rattle.bitvec_domain.specs.declared.reference_mut.BitRefMut.{BitRefMut}

-- The range is in order and ends at most at `len`, the number of a view's bits.
abbrev pub HasRange : Range ℕ → ℕ → Type 0
HasRange range len = (range.start ≤ range.end) × (range.end ≤ len)

-- Both ends of the inclusive range are indices below `len`, the number of a view's bits, and in order.
abbrev pub HasInclusive : RangeInclusive ℕ → ℕ → Type 0
HasInclusive range len =
    (range_inclusive_start range < len) × (range_inclusive_end range < len) × (range_inclusive_start range ≤ range_inclusive_end range)

-- The reference reads the bit at an index of the view.
abbrev pub IsBitOf : {T O : Type 0} → Seen T → ℕ → BitRef T O → Type 0
IsBitOf view index r = bit_of_ref r ≡ slice_index_or view.bits index false

-- The reference writes the bit at an index of the view, in the element that has it.
pub record WritesBitOf {T O : Type 0} {t : Store T} {o : Order O} (view : Seen T) (index : ℕ) (r : BitRefMut T O t o) : Type 0 where
  pub bit : bit_of_ref_mut r ≡ slice_index_or view.bits index false
  pub place : place_of_ref_mut r ≡ (view.window.start + index) % t.BITS
  pub elements : elements_of_ref_mut r ≡ touched_elements t.BITS view.elements (view.window.start + index) (view.window.start + (index + 1))
