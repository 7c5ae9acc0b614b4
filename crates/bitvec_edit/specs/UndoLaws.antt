-- Laws of two edits of a view, the second of which undoes the first: the memory is as it was.
use Rattle.std.specs.Prelude.{◌≡◌, ℕ, ◌≤◌, Bool, not, List, length, map, reverse}
use Rattle.std.proofs.Common.{sym, ◌∙◌, ap}
use Rattle.std.proofs.lemmas.List.{reverse-reverse}
use Rattle.bitvec_base.specs.FillLaws.{flip-undoes}
use Rattle.bitvec_base.specs.Lists.{rotated_left, rotated_right}
use Rattle.bitvec_base.specs.RotationLaws.{rotated_right-undoes}
use Rattle.bitvec_base.specs.Window.{write_window}
use Rattle.bitvec_base.specs.WindowLaws.{window-rewritten, window-kept}
use Rattle.bitvec_store.specs.declared.store.BitStore.{Ghosts as Store}
use Rattle.bitvec_base.specs.declared.order.BitOrder.{Ghosts as Order}
use Rattle.bitvec_slice.specs.ShowingLaws.{length-seen_mut, within-seen_mut}
use Rattle.bitvec_slice.specs.Views.{seen_mut}
use Rattle.bitvec_slice.specs.Writes.{WritesBits}
use Rattle.bitvec_slice.specs.declared.view_mut.BitSliceMut.{BitSliceMut}

module _ {T O : Type 0} {t : Store T} {o : Order O} (first second last : BitSliceMut T O t o) where
  -- Two edits leave the memory as it was where the second one gives the view its first bits again.
  pub undone : (x y : List Bool) → WritesBits first second x → WritesBits second last y → y ≡ (seen_mut first).bits → (seen_mut last).memory ≡ (seen_mut first).memory
  undone x y one two back =
      let m = (seen_mut first).memory in
      let w = (seen_mut first).window in
      let x-long : length x ≡ w.len = ap length (sym one.bits) ∙ length-seen_mut second ∙ ap (λ place. place.len) one.window in
      two.memory ∙ ap (λ place. write_window (seen_mut second).memory place y) one.window ∙ ap (λ (old : List Bool). write_window old w y) one.memory
      ∙ ap (λ (new : List Bool). write_window (write_window m w x) w new) back
      ∙ window-rewritten m w x (seen_mut first).bits (within-seen_mut first) x-long (length-seen_mut first) ∙ window-kept m w (within-seen_mut first)

  -- Reversing the bits of a view twice leaves its memory as it was.
  pub reversed-back : WritesBits first second (reverse (seen_mut first).bits) → WritesBits second last (reverse (seen_mut second).bits) → (seen_mut last).memory ≡ (seen_mut first).memory
  reversed-back one two = undone _ _ one two (ap reverse one.bits ∙ reverse-reverse (seen_mut first).bits)

  -- Inverting each bit of a view twice leaves its memory as it was.
  pub inverted-back : WritesBits first second (map not (seen_mut first).bits) → WritesBits second last (map not (seen_mut second).bits) → (seen_mut last).memory ≡ (seen_mut first).memory
  inverted-back one two = undone _ _ one two (ap (map not) one.bits ∙ flip-undoes (seen_mut first).bits)

  -- Rotating a view left by `k` bits and then right by `k` bits leaves its memory as it was.
  pub rotated-back : (k : ℕ) → k ≤ length (seen_mut first).bits → WritesBits first second (rotated_left k (seen_mut first).bits) → WritesBits second last (rotated_right k (seen_mut second).bits) → (seen_mut last).memory ≡ (seen_mut first).memory
  rotated-back k inside one two = undone _ _ one two (ap (rotated_right k) one.bits ∙ rotated_right-undoes k (seen_mut first).bits inside)
