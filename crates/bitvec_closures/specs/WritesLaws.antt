-- Edits of one view, one after the other, as one edit.
use Rattle.std.specs.Prelude.{◌≡◌, Bool, List, length, refl}
use Rattle.std.proofs.Common.{◌∙◌}
use Rattle.bitvec_store.specs.declared.store.BitStore.{Ghosts as Store}
use Rattle.bitvec_base.specs.declared.order.BitOrder.{Ghosts as Order}
use Rattle.bitvec_slice.specs.Seen.{outside_of}
use Rattle.bitvec_slice.specs.Views.{name_of, seen_mut}
use Rattle.bitvec_slice.specs.Writes.{WritesBits}
use Rattle.bitvec_slice.specs.declared.view_mut.BitSliceMut.{BitSliceMut}
use Rattle.bitvec_closures.specs.ViewInPlace.{written_so}

module _ {T O : Type 0} {t : Store T} {o : Order O} where
  -- A view whose outside, window, number of elements and name are as before was written with the bits that it has now.
  pub written-around : (first last : BitSliceMut T O t o) → outside_of (seen_mut last) ≡ outside_of (seen_mut first) → (seen_mut last).window ≡ (seen_mut first).window
      → length (seen_mut last).elements ≡ length (seen_mut first).elements → name_of last ≡ name_of first → WritesBits first last (seen_mut last).bits
  written-around first last outside window elements name =
      written_so first last (seen_mut last).bits (record { bits = refl; stays = record { outside = outside; window = window; elements = elements; name = name } })

  -- A view that wasn't edited was written with its own bits.
  pub written-none : (v : BitSliceMut T O t o) → WritesBits v v (seen_mut v).bits
  written-none v = written-around v v refl refl refl refl

  -- Two writes of a view, one after the other, are one write of the second one's bits.
  pub written-then : (first second last : BitSliceMut T O t o) (x y : List Bool) → WritesBits first second x → WritesBits second last y → WritesBits first last y
  written-then first second last x y one two =
      written_so first last y (record { bits = two.bits; stays = record { outside = two.outside ∙ one.outside; window = two.window ∙ one.window; elements = two.length ∙ one.length; name = two.name ∙ one.name } })
