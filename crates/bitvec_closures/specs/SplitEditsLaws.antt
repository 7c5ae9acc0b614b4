-- What a caller knows of the pieces of a split that were edited in turn.
use Rattle.std.specs.Prelude.{◌≡◌, ℕ, ◌+◌, ◌-◌, ◌<◌, ◌≤◌, ◌⊎◌, Bool, false, List, [], ◌∷◌, length, slice_index_or, ⊤}
use Rattle.std.specs.Borrow.{GName, MutBor}
use Rattle.std.specs.List.{FoldsTo}
use Rattle.std.specs.declared.ops.Range.{Range}
use Rattle.std.proofs.Common.{arith, sym, subst, ◌∙◌, ap, ⊎_elim}
use Rattle.std.proofs.lemmas.Bool.{cases_lt}
use Rattle.bitvec_base.specs.Window.{write_at}
use Rattle.bitvec_base.specs.WriteLaws.{get-slice_range, get-write_at_above, get-write_at_below, get-write_at_inside, length-slice_range, length-write_at}
use Rattle.bitvec_cutting.specs.Cutting.{cut}
use Rattle.bitvec_slice.specs.Seen.{Seen}
use Rattle.bitvec_slice.specs.Showing.{ShowsElements}
use Rattle.bitvec_closures.specs.InPlaceLaws.{length-left, length-shown}
use Rattle.bitvec_store.specs.declared.store.BitStore.{Ghosts as Store}
use Rattle.bitvec_base.specs.declared.order.BitOrder.{Ghosts as Order}
use Rattle.bitvec_slice.specs.ShowingLaws.{shows-seen_mut}
use Rattle.bitvec_slice.specs.Views.{name_of, seen_mut}
use Rattle.bitvec_slice.specs.declared.view_mut.BitSliceMut.{BitSliceMut}
use Rattle.bitvec_closures.specs.SplitEdits.{Editing, EditsInTurn, EditsNext}

-- `now`, with each of the pieces, from this number on, made what `leaves` makes of its number and of the bits that it has in `bits`
abbrev pub made : (ℕ → List Bool → List Bool) → List Bool → ℕ → List (Range ℕ) → List Bool → List Bool
made leaves bits number [] now = now
made leaves bits number (range ∷ more) now = made leaves bits (number + 1) more (write_at now range.start (leaves number (cut bits range)))

module _ {V T F : Type 0} (shows : V → Seen T) (named : V → GName) (step : F → ℕ → MutBor V → ⊤ → MutBor V → F → Type 0) (view : V) (leaves : ℕ → List Bool → List Bool)
    (leaves_so : (f g : F) (k : ℕ) (p q : MutBor V) → step f k p tt q g → (shows q.now).bits ≡ leaves k (shows p.now).bits) where
  made-from : (s : Editing F) (pieces : List (Range ℕ)) (last : Editing F) → FoldsTo (EditsNext shows named step view) s pieces last → last.bits ≡ made leaves (shows view).bits s.number pieces s.bits
  made-from s [] last edits = ap (λ (e : Editing F). e.bits) (sym edits)
  made-from s (range ∷ more) last (t, next, edits) =
      let left = leaves_so _ _ _ _ _ next.stepped ∙ ap (leaves s.number) next.is.bits in
      rw (sym left, sym next.bits, sym next.number) (made-from t more last edits)

-- the index is in none of the ranges
abbrev pub IsInNone : ℕ → List (Range ℕ) → Type 0
IsInNone i [] = ⊤
IsInNone i (range ∷ more) = ((i < range.start) ⊎ (range.end ≤ i)) × IsInNone i more

module _ {V T F : Type 0} {b : ℕ} {at : ℕ → ℕ → ℕ} {value : T → ℕ} (shows : V → Seen T) (named : V → GName) (sound : (v : V) → ShowsElements b at value (shows v)) (step : F → ℕ → MutBor V → ⊤ → MutBor V → F → Type 0) (view : V) where
  fits-still : (s t : Editing F) (range : Range ℕ) → length s.bits ≡ (shows view).window.len → (next : EditsNext shows named step view s range t)
      → (range.start + length (shows next.left.now).bits ≡ range.end) × (range.end ≤ length s.bits) × (length t.bits ≡ (shows view).window.len)
  fits-still s t range long next =
      let new = length-left sound next.is next.stays in
      let (order, bound) = next.lies in
      let end : range.start + length (shows next.left.now).bits ≡ range.end = omega arith in
      let fits : range.end ≤ length s.bits = omega arith in
      (end, fits, ap length next.bits ∙ length-write_at s.bits range.start (shows next.left.now).bits (omega arith) ∙ long)

  kept-from : (i : ℕ) (d : Bool) (s : Editing F) (pieces : List (Range ℕ)) (last : Editing F) → length s.bits ≡ (shows view).window.len → IsInNone i pieces
      → FoldsTo (EditsNext shows named step view) s pieces last → slice_index_or last.bits i d ≡ slice_index_or s.bits i d
  kept-from i d s [] last long out edits = ap (λ (e : Editing F). slice_index_or e.bits i d) (sym edits)
  kept-from i d s (range ∷ more) last long out (t, next, edits) =
      let (end, fits, still) = fits-still s t range long next in
      let new = (shows next.left.now).bits in
      let order = next.lies.0 in
      kept-from i d t more last still out.1 edits ∙ ap (λ (l : List Bool). slice_index_or l i d) next.bits
      ∙ ⊎_elim (λ before. get-write_at_below s.bits range.start new i d (omega arith) before) (λ behind. get-write_at_above s.bits range.start new i d (omega arith) (omega arith)) out.0

  module _ (Related : Bool → Bool → Type 0)
      (leaves : (f g : F) (k : ℕ) (p q : MutBor V) → step f k p tt q g → (i : ℕ) → i < (shows p.now).window.len → Related (slice_index_or (shows p.now).bits i false) (slice_index_or (shows q.now).bits i false)) (i : ℕ) where
    related-next : (s t : Editing F) (range : Range ℕ) → length s.bits ≡ (shows view).window.len → EditsNext shows named step view s range t
        → Related (slice_index_or (shows view).bits i false) (slice_index_or s.bits i false) → Related (slice_index_or (shows view).bits i false) (slice_index_or t.bits i false)
    related-next s t range long next same =
        let (end, fits, still) = fits-still s t range long next in
        let new = (shows next.left.now).bits in
        let order = next.lies.0 in
        let wide = length-shown (sound view) in
        let bound = next.lies.1 in
        let elsewhere : (slice_index_or (write_at s.bits range.start new) i false ≡ slice_index_or s.bits i false) → Related (slice_index_or (shows view).bits i false) (slice_index_or t.bits i false)
        = λ kept. subst (Related (slice_index_or (shows view).bits i false)) (sym (ap (λ (l : List Bool). slice_index_or l i false) next.bits ∙ kept)) same in
        ⊎_elim (λ before. elsewhere (get-write_at_below s.bits range.start new i false (omega arith) before))
        (λ (from : range.start ≤ i). ⊎_elim
        (λ (inside : i < range.end).
        let here = i - range.start in
        let place : range.start + here ≡ i = omega arith in
        let piece : length (cut (shows view).bits range) ≡ range.end - range.start = length-slice_range (shows view).bits range.start range.end (omega arith) in
        let old : slice_index_or (shows next.piece.now).bits here false ≡ slice_index_or (shows view).bits i false =
        ap (λ (l : List Bool). slice_index_or l here false) next.is.bits ∙ get-slice_range (shows view).bits range.start range.end here false (omega arith) ∙ ap (λ (k : ℕ). slice_index_or (shows view).bits k false) place in
        let now : slice_index_or t.bits i false ≡ slice_index_or new here false =
        ap (λ (l : List Bool). slice_index_or l i false) next.bits ∙ get-write_at_inside s.bits range.start new i false (omega arith) from (omega arith) in
        let short : here < (shows next.piece.now).window.len = omega (arith, next.is.len, inside, from) in
        rw (now, sym old) (leaves _ _ _ _ _ next.stepped here short))
        (λ behind. elsewhere (get-write_at_above s.bits range.start new i false (omega arith) (omega arith))) (cases_lt i range.end)) (cases_lt i range.start)

    related-from : (s : Editing F) (pieces : List (Range ℕ)) (last : Editing F) → length s.bits ≡ (shows view).window.len → Related (slice_index_or (shows view).bits i false) (slice_index_or s.bits i false)
        → FoldsTo (EditsNext shows named step view) s pieces last → Related (slice_index_or (shows view).bits i false) (slice_index_or last.bits i false)
    related-from s [] last long same edits = subst (λ (e : Editing F). Related (slice_index_or (shows view).bits i false) (slice_index_or e.bits i false)) edits same
    related-from s (range ∷ more) last long same (t, next, edits) =
        related-from t more last (fits-still s t range long next).2 (related-next s t range long next same) edits

module _ {T O F : Type 0} {t : Store T} {o : Order O} {step : F → ℕ → MutBor (BitSliceMut T O t o) → ⊤ → MutBor (BitSliceMut T O t o) → F → Type 0} {view : BitSliceMut T O t o} where
  -- An edit that makes of each piece what `leaves` says leaves the view with each piece made so.
  pub edits-made : {edit : F} {pieces : List (Range ℕ)} {bits : List Bool} (leaves : ℕ → List Bool → List Bool) → EditsInTurn seen_mut name_of step view edit pieces bits
      → ((f g : F) (k : ℕ) (p q : MutBor (BitSliceMut T O t o)) → step f k p tt q g → (seen_mut q.now).bits ≡ leaves k (seen_mut p.now).bits) → bits ≡ made leaves (seen_mut view).bits 0 pieces (seen_mut view).bits
  edits-made {edit} {pieces} leaves edits leaves_so =
      edits.bits ∙ made-from seen_mut name_of step view leaves leaves_so (record { bits = (seen_mut view).bits; edit = edit; number = 0 }) pieces edits.last edits.edits

  -- Each bit of a view is related to what stands there after the edits, where each edit relates the bits of its piece so.
  pub each-bit : {edit : F} {pieces : List (Range ℕ)} {bits : List Bool} (Related : Bool → Bool → Type 0) → EditsInTurn seen_mut name_of step view edit pieces bits → ((b : Bool) → Related b b)
      → ((f g : F) (k : ℕ) (p q : MutBor (BitSliceMut T O t o)) → step f k p tt q g → (i : ℕ) → i < (seen_mut p.now).window.len → Related (slice_index_or (seen_mut p.now).bits i false) (slice_index_or (seen_mut q.now).bits i false))
      → (i : ℕ) → Related (slice_index_or (seen_mut view).bits i false) (slice_index_or bits i false)
  each-bit {edit} {pieces} Related edits same leaves i =
      subst (λ (l : List Bool). Related (slice_index_or (seen_mut view).bits i false) (slice_index_or l i false)) (sym edits.bits)
      (related-from seen_mut name_of shows-seen_mut step view Related leaves i (record { bits = (seen_mut view).bits; edit = edit; number = 0 }) pieces edits.last (length-shown (shows-seen_mut view)) (same _) edits.edits)

  -- A bit in no piece is as before.
  pub bit-kept : {edit : F} {pieces : List (Range ℕ)} {bits : List Bool} (i : ℕ) (d : Bool) → EditsInTurn seen_mut name_of step view edit pieces bits → IsInNone i pieces → slice_index_or bits i d ≡ slice_index_or (seen_mut view).bits i d
  bit-kept {edit} {pieces} i d edits out =
      ap (λ (l : List Bool). slice_index_or l i d) edits.bits ∙ kept-from seen_mut name_of shows-seen_mut step view i d (record { bits = (seen_mut view).bits; edit = edit; number = 0 }) pieces edits.last (length-shown (shows-seen_mut view)) out edits.edits
