-- Numbered pieces of a view that are edited one after the other.
use Rattle.std.specs.Prelude.{◌≡◌, ℕ, ◌+◌, ◌<◌, ◌≤◌, ◌⊎◌, Bool, List, length, slice_index_or, slice_range, refl, ⊤}
use Rattle.std.specs.Borrow.{GName, MutBor}
use Rattle.std.proofs.Common.{arith, inl, inr, subst, ◌∙◌, ap, ⊎_elim}
use Rattle.bitvec_base.specs.Window.{write_at}
use Rattle.bitvec_base.specs.WriteLaws.{get-write_at_above, get-write_at_below, range-write_at, range-write_at_after, range-write_at_before}
use Rattle.bitvec_base.specs.declared.window.Window.{Window}
use Rattle.bitvec_cutting.specs.Cutting.{LiesIn, cut}
use Rattle.bitvec_closures.specs.Pieces.{CallsInTurn, EditsPieces, IsApart, IsLeftOut, IsNumbered, Narrows, WayToCut}
use Rattle.bitvec_closures.specs.InPlace.{StaysInPlace, WritesInPlace}
use Rattle.bitvec_closures.specs.InPlaceLaws.{length-left, length-shown, piece-before, shown-fits, shown-within, stays-then}
use Rattle.bitvec_closures.specs.InTurnLaws.{in_turn-first, in_turn-more}
use Rattle.bitvec_slice.specs.Seen.{Seen}
use Rattle.bitvec_slice.specs.Showing.{ShowsElements}

module _ {V T F : Type 0} (shows : V → Seen T) (named : V → GName) (step : F → ℕ → MutBor V → ⊤ → MutBor V → F → Type 0) (view : V) (way : WayToCut) (edit : F) where
  -- the pieces before `index` were edited in turn, which left the edit as `f`, and those from it on are as before, as is what lies in none
  pub record PiecesSoFar (index : ℕ) (now : V) (f : F) : Type 0 where
    pub within : index ≤ way.count (shows view).window.len
    pub stays : StaysInPlace shows named view now
    pub in_turn : CallsInTurn shows step edit (shows view) way index (λ k. cut (shows now).bits (way.place (shows view).window.len k)) f
    pub rest : (k : ℕ) → index ≤ k → k < way.count (shows view).window.len → cut (shows now).bits (way.place (shows view).window.len k) ≡ cut (shows view).bits (way.place (shows view).window.len k)
    pub others : (i : ℕ) (d : Bool) → IsLeftOut way (shows view).window.len i → slice_index_or (shows now).bits i d ≡ slice_index_or (shows view).bits i d

module _ {V T F : Type 0} {shows : V → Seen T} {named : V → GName} {step : F → ℕ → MutBor V → ⊤ → MutBor V → F → Type 0} {view : V} {way : WayToCut} {edit : F} where
  -- none at first
  pub pieces-none : PiecesSoFar shows named step view way edit 0 view edit
  pieces-none = record {
    within = omega arith;
    stays = record { outside = refl; window = refl; elements = refl; name = refl };
    in_turn = in_turn-first;
    rest = λ k later fits. refl;
    others = λ i d out. refl;
  }

  -- all at last
  pub pieces-all : {writes : V → V → List Bool → Type 0} {index : ℕ} {now : V} {f : F} → PiecesSoFar shows named step view way edit index now f → way.count (shows view).window.len ≤ index
      → writes view now (shows now).bits → EditsPieces shows named writes step edit view way now
  pieces-all {writes} {index} {now} {f} far all wrote = record {
    last = f;
    in_turn = subst (λ (n : ℕ). CallsInTurn shows step edit (shows view) way n (λ k. cut (shows now).bits (way.place (shows view).window.len k)) f) (omega (arith, far.within, all)) far.in_turn;
    others = far.others;
    stays = far.stays;
    written = wrote;
  }

module _ {V T F : Type 0} {b : ℕ} {at : ℕ → ℕ → ℕ} {value : T → ℕ} {shows : V → Seen T} {named : V → GName} {step : F → ℕ → MutBor V → ⊤ → MutBor V → F → Type 0} {view now : V} {way : WayToCut} {edit f : F} {index : ℕ}
    (sound : (v : V) → ShowsElements b at value (shows v)) (apart : IsApart way (shows view).window.len) (inside : (k : ℕ) → k < way.count (shows view).window.len → LiesIn (shows view).window.len (way.place (shows view).window.len k))
    (far : PiecesSoFar shows named step view way edit index now f) (below : index < way.count (shows view).window.len) where
  -- the next piece lies in the view as it is now, and is the piece of the view before
  pub next-lies : LiesIn (shows now).window.len (way.place (shows view).window.len index)
  next-lies = rw far.stays.window (inside index below)

  pub next-is : {window : Window} {piece : V} → way.count (shows view).window.len ≤ (shows view).window.len → Narrows shows named now (way.place (shows view).window.len index) window piece → IsNumbered (shows view) way index (shows piece)
  next-is few narrowed =
      let some = (apart index below).0 in
      let len = narrowed.part.len in
      let fits = shown-fits (sound view) in
      let within = (shown-within (sound view)).len in
      record { part = piece-before _ far.stays (far.rest index (omega arith) below) narrowed.part; below = below; bound = omega arith; some = omega arith }

  pub pieces-next : {g : F} {p q : MutBor V} {after : V} → IsNumbered (shows view) way index (shows p.now) → step f index p tt q g → StaysInPlace shows named p.now q.now
      → WritesInPlace shows named now after (write_at (shows now).bits (way.place (shows view).window.len index).start (shows q.now).bits) → PiecesSoFar shows named step view way edit (index + 1) after g
  pieces-next {g} {p} {q} {after} is stepped kept wrote =
      let from = (way.place (shows view).window.len index).start in
      let to = (way.place (shows view).window.len index).end in
      let left = (shows q.now).bits in
      let long = length-left sound is.part kept in
      let wide : length (shows now).bits ≡ (shows view).window.len = length-shown (sound now) ∙ ap (λ (w : Window). w.len) far.stays.window in
      let order = (inside index below).0 in
      let bound = (inside index below).1 in
      let end : to ≡ from + length left = omega arith in
      let elsewhere : (a e : ℕ) → e ≤ (shows view).window.len → (e ≤ from) ⊎ (to ≤ a) → slice_range (shows after).bits a e ≡ slice_range (shows now).bits a e =
      λ a e fits away. ap (λ (l : List Bool). slice_range l a e) wrote.bits
      ∙ ⊎_elim (λ before. range-write_at_before (shows now).bits from left a e (omega arith) before) (λ behind. range-write_at_after (shows now).bits from left a e (omega arith) (omega arith) (omega arith)) away in
      record {
        within = omega (arith, below);
        stays = stays-then far.stays wrote.stays;
        in_turn = in_turn-more far.in_turn (λ k earlier. elsewhere _ _ (inside k (omega arith)).1 ((apart index below).1 k earlier)) (record {
          piece = p;
          left = q;
          is = is;
          stepped = stepped;
          bits = ap (λ (l : List Bool). slice_range l from to) wrote.bits ∙ ap (λ (n : ℕ). slice_range (write_at (shows now).bits from left) from n) end
              ∙ range-write_at (shows now).bits from left (omega arith);
        });
        rest = λ k later fits. elsewhere _ _ (inside k fits).1 (⊎_elim inr inl ((apart k fits).1 index (omega arith))) ∙ far.rest k (omega arith) fits;
        others = λ i d out. ap (λ (l : List Bool). slice_index_or l i d) wrote.bits
            ∙ ⊎_elim (λ before. get-write_at_below (shows now).bits from left i d (omega arith) before) (λ behind. get-write_at_above (shows now).bits from left i d (omega arith) (omega arith)) (out index below)
            ∙ far.others i d out;
      }
