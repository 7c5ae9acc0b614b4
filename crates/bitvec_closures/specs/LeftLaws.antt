-- What a caller knows of a view that was edited piece by piece.
use Rattle.std.specs.Prelude.{◌≡◌, ℕ, ◌+◌, ◌*◌, ◌<◌, Bool, List, refl, slice_range, ⊤}
use Rattle.std.specs.Borrow.{GName, MutBor}
use Rattle.std.proofs.Common.{arith, sym, subst, ◌∙◌, ap}
use Rattle.bitvec_cutting.specs.Cutting.{cut}
use Rattle.bitvec_cutting.specs.RangeLaws.{chunk-counted, chunk-range}
use Rattle.bitvec_closures.specs.Pieces.{EditsPieces, IsNumbered, MayEdit, MayEditEach, WayToCut, in_chunks}
use Rattle.bitvec_closures.specs.InTurnLaws.{in_turn-keep}
use Rattle.bitvec_store.specs.declared.store.BitStore.{Ghosts as Store}
use Rattle.bitvec_base.specs.declared.order.BitOrder.{Ghosts as Order}
use Rattle.bitvec_slice.specs.Seen.{Seen}
use Rattle.bitvec_slice.specs.ShowingLaws.{shows-seen_mut}
use Rattle.bitvec_slice.specs.Views.{name_of, seen_mut}
use Rattle.bitvec_slice.specs.declared.view_mut.BitSliceMut.{BitSliceMut}
use Rattle.bitvec_closures.specs.InPlaceLaws.{length-shown}

module _ {V T F : Type 0} {shows : V → Seen T} {named : V → GName} {pre : F → ℕ → MutBor V → Type 0} {step : F → ℕ → MutBor V → ⊤ → MutBor V → F → Type 0} {edit : F} {view : Seen T} {way : WayToCut} where
  -- An edit may be called on each piece where a fact that each call keeps lets it be called on the next.
  pub may_edit_kept : (Holds : ℕ → F → Type 0) → Holds 0 edit
      → ((j : ℕ) (f g : F) (p q : MutBor V) → Holds j f → IsNumbered view way j (shows p.now) → step f j p tt q g → Holds (j + 1) g)
      → ((k : ℕ) (f : F) → Holds k f → MayEdit shows named (pre f k) (λ p r q. (g : F) × step f k p r q g) (IsNumbered view way k)) → MayEditEach shows named pre step edit view way
  may_edit_kept Holds first keeps may = record {
    at = λ f k lists in_turn. may k f (subst (Holds k) in_turn.last_is (in_turn-keep Holds in_turn first (λ j f g list holds call. keeps j f g call.piece call.left holds call.is call.stepped) k (omega arith)));
  }

module _ {T O F : Type 0} {t : Store T} {o : Order O} {writes : BitSliceMut T O t o → BitSliceMut T O t o → List Bool → Type 0}
    {step : F → ℕ → MutBor (BitSliceMut T O t o) → ⊤ → MutBor (BitSliceMut T O t o) → F → Type 0} {edit : F} {before after : BitSliceMut T O t o} where
  -- A piece has the bits `left` now, where the call on it leaves them whenever the kept fact holds of the edit.
  pub piece_kept : {way : WayToCut} (Holds : ℕ → F → Type 0) (k : ℕ) (left : List Bool) → EditsPieces seen_mut name_of writes step edit before way after → k < way.count (seen_mut before).window.len → Holds 0 edit
      → ((j : ℕ) (f g : F) (p q : MutBor (BitSliceMut T O t o)) → Holds j f → IsNumbered (seen_mut before) way j (seen_mut p.now) → step f j p tt q g → Holds (j + 1) g)
      → ((f g : F) (p q : MutBor (BitSliceMut T O t o)) → Holds k f → IsNumbered (seen_mut before) way k (seen_mut p.now) → step f k p tt q g → (seen_mut q.now).bits ≡ left)
      → cut (seen_mut after).bits (way.place (seen_mut before).window.len k) ≡ left
  piece_kept Holds k left edits below first keeps same =
      let call = edits.in_turn.calls k below in
      call.bits ∙ same _ _ _ _ (in_turn-keep Holds edits.in_turn first (λ j f g list holds call. keeps j f g call.piece call.left holds call.is call.stepped) k (omega (arith, below))) call.is call.stepped

  -- A chunk has the bits `left` now, where the call on it leaves them whenever the kept fact holds of the edit.
  pub chunk_kept : {size : ℕ} (Holds : ℕ → F → Type 0) (k : ℕ) (left : List Bool) → 0 < size → EditsPieces seen_mut name_of writes step edit before (in_chunks size) after → k * size < (seen_mut before).window.len → Holds 0 edit
      → ((j : ℕ) (f g : F) (p q : MutBor (BitSliceMut T O t o)) → Holds j f → IsNumbered (seen_mut before) (in_chunks size) j (seen_mut p.now) → step f j p tt q g → Holds (j + 1) g)
      → ((f g : F) (p q : MutBor (BitSliceMut T O t o)) → Holds k f → IsNumbered (seen_mut before) (in_chunks size) k (seen_mut p.now)
      → (seen_mut p.now).bits ≡ slice_range (seen_mut before).bits (k * size) (k * size + size) → step f k p tt q g → (seen_mut q.now).bits ≡ left)
      → slice_range (seen_mut after).bits (k * size) (k * size + size) ≡ left
  chunk_kept {size} Holds k left some edits begins first keeps same =
      sym (chunk-range (seen_mut after).bits size k (length-shown (shows-seen_mut after) ∙ ap (λ w. w.len) edits.stays.window))
      ∙ piece_kept Holds k left edits (chunk-counted size k some begins) first keeps (λ f g p q holds is. same f g p q holds is (is.part.bits ∙ chunk-range (seen_mut before).bits size k (length-shown (shows-seen_mut before))))

  -- A piece has the bits `left` now, where each call at its number leaves them.
  pub piece_left : {way : WayToCut} (k : ℕ) (left : List Bool) → EditsPieces seen_mut name_of writes step edit before way after → k < way.count (seen_mut before).window.len
      → ((f g : F) (p q : MutBor (BitSliceMut T O t o)) → IsNumbered (seen_mut before) way k (seen_mut p.now) → step f k p tt q g → (seen_mut q.now).bits ≡ left)
      → cut (seen_mut after).bits (way.place (seen_mut before).window.len k) ≡ left
  piece_left k left edits below same = piece_kept (λ _ _. ⊤) k left edits below tt (λ j f g p q holds is stepped. tt) (λ f g p q holds. same f g p q)

  -- A chunk has the bits `left` now, where each call at its number leaves them.
  pub chunk_left : {size : ℕ} (k : ℕ) (left : List Bool) → 0 < size → EditsPieces seen_mut name_of writes step edit before (in_chunks size) after → k * size < (seen_mut before).window.len
      → ((f g : F) (p q : MutBor (BitSliceMut T O t o)) → IsNumbered (seen_mut before) (in_chunks size) k (seen_mut p.now)
      → (seen_mut p.now).bits ≡ slice_range (seen_mut before).bits (k * size) (k * size + size) → step f k p tt q g → (seen_mut q.now).bits ≡ left)
      → slice_range (seen_mut after).bits (k * size) (k * size + size) ≡ left
  chunk_left k left some edits begins same = chunk_kept (λ _ _. ⊤) k left some edits begins tt (λ j f g p q holds is stepped. tt) (λ f g p q holds. same f g p q)

  -- A piece has the bits `left` now, where no call changes the edit and the call at its number leaves them.
  pub piece_same : {way : WayToCut} (k : ℕ) (left : List Bool) → EditsPieces seen_mut name_of writes step edit before way after → k < way.count (seen_mut before).window.len
      → ((j : ℕ) (g : F) (p q : MutBor (BitSliceMut T O t o)) → IsNumbered (seen_mut before) way j (seen_mut p.now) → step edit j p tt q g → g ≡ edit)
      → ((g : F) (p q : MutBor (BitSliceMut T O t o)) → IsNumbered (seen_mut before) way k (seen_mut p.now) → step edit k p tt q g → (seen_mut q.now).bits ≡ left)
      → cut (seen_mut after).bits (way.place (seen_mut before).window.len k) ≡ left
  piece_same k left edits below keeps same =
      piece_kept (λ _ f. f ≡ edit) k left edits below refl (λ j f g p q at is stepped. keeps j g p q is (subst (λ (e : F). step e j p tt q g) at stepped))
      (λ f g p q at is stepped. same g p q is (subst (λ (e : F). step e k p tt q g) at stepped))
