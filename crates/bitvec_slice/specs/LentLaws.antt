-- What is lent where there is something to lend, and where there is nothing.
use Rattle.std.specs.Prelude.{◌≡◌, ℕ, ◌+◌, Bool, true, false, List, if◌then◌else◌, map, slice_index_or, refl}
use Rattle.std.proofs.Common.{arith, ◌∙◌, ap}
use Rattle.bitvec_base.specs.WriteLaws.{get-slice_range}
use Rattle.bitvec_base.specs.WritesLaws.{Writes-nothing}
use Rattle.bitvec_store.specs.declared.store.BitStore.{Ghosts as Store}
use Rattle.bitvec_base.specs.declared.order.BitOrder.{Ghosts as Order}
use Rattle.bitvec_domain.specs.Refill.{with_range}
use Rattle.bitvec_domain.specs.declared.reference_mut.BitRefMut.{BitRefMut}
use Rattle.bitvec_slice.specs.Indices.{WritesBitOf}
use Rattle.bitvec_slice.specs.Lending.{with_elements}
use Rattle.bitvec_slice.specs.MayLend.{IsBitOfView}
use Rattle.bitvec_slice.specs.Seen.{IsRangeOf, Seen}
use Rattle.bitvec_slice.specs.SeenLaws.{has_window}
use Rattle.bitvec_slice.specs.Views.{seen_mut}
use Rattle.bitvec_slice.specs.WriteLaws.{writes_bits}
use Rattle.bitvec_slice.specs.Writes.{WritesBits}
use Rattle.bitvec_slice.specs.declared.view_mut.BitSliceMut.{BitSliceMut}

-- Where something was lent, the lender ends with the lent range, from `start` up to `end`.
pub lends-some : {X : Type 0} (end_as : ℕ → ℕ → X) (has : Bool) (first last start end : ℕ) → has ≡ true → first ≡ start → last ≡ end → end_as first last ≡ end_as (if has then start else 0) (if has then end else 0)
lends-some end_as has first last start end is first_is last_is = rw (is, first_is, last_is) refl

-- Where nothing was lent, the lender ends with an empty range at 0.
pub lends-none : {X : Type 0} (end_as : ℕ → ℕ → X) (has : Bool) (start end : ℕ) → has ≡ false → end_as 0 0 ≡ end_as (if has then start else 0) (if has then end else 0)
lends-none end_as has start end is = rw is refl

-- Where `has` holds, the first of two values is the one that it selects.
pub is-some : {X : Type 0} (has : Bool) (some none : X) → has ≡ true → some ≡ (if has then some else none)
is-some has some none is = rw is refl

-- Where `has` doesn't hold, the second of two values is the one that it selects.
pub is-none : {X : Type 0} (has : Bool) (some none : X) → has ≡ false → none ≡ (if has then some else none)
is-none has some none is = rw is refl

module _ {T O : Type 0} {t : Store T} {o : Order O} where
  -- A reference that writes the one bit of a part writes the view's bit there.
  pub bit-of_part : (view : Seen T) (index : ℕ) (part : BitSliceMut T O t o) (r : BitRefMut T O t o) → IsRangeOf t.BITS view index (index + 1) (seen_mut part) → IsBitOfView part r → WritesBitOf view index r
  bit-of_part view index part r is bit = record {
    bit = bit.bit ∙ ap (λ (list : List Bool). slice_index_or list 0 false) is.bits ∙ get-slice_range view.bits index (index + 1) 0 false (omega arith)
        ∙ (let here : index + 0 ≡ index = omega arith in ap (λ (place : ℕ). slice_index_or view.bits place false) here);
    place = bit.place ∙ is.start;
    elements = bit.elements ∙ is.elements;
  }

  -- Where nothing was lent, the view ends with its own bits.
  pub lent-none : (v : BitSliceMut T O t o) (ws : List T) (has : Bool) (start end : ℕ) → has ≡ false
      → WritesBits v (with_elements v (with_range v.elements.now (if has then start else 0) (if has then end else 0) ws)) (seen_mut v).bits
  lent-none v ws has start end is_none =
      rw is_none (writes_bits v v.elements.now (seen_mut v).bits
      (Writes-nothing o.at (map t.value v.elements.now) (has_window t.BITS o.at t.value v.elements.now v.head v.len v.inside v.bounded) refl))
