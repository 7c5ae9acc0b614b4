-- The pieces of a split that were edited so far, and one more.
use Rattle.std.specs.Prelude.{◌≡◌, ℕ, ◌+◌, ◌-◌, ◌≤◌, ◌==◌, Bool, true, false, List, [], ◌∷◌, MatchOption, Option, Some, None, length, slice_range, ⊤, refl}
use Rattle.std.specs.Bool.{MatchBool}
use Rattle.std.specs.Borrow.{Bor, GName, MutBor}
use Rattle.std.specs.Fn.{Mut}
use Rattle.std.specs.List.{FoldsTo}
use Rattle.std.specs.declared.ops.Range.{Range}
use Rattle.std.proofs.Common.{arith, subst, ◌∙◌, ap, ⊎_elim}
use Rattle.bitvec_base.specs.Window.{write_at}
use Rattle.bitvec_base.specs.WriteLaws.{range-range, range-write_at_after, range-write_at_before}
use Rattle.bitvec_base.specs.declared.window.Window.{Window}
use Rattle.bitvec_cutting.specs.Cutting.{LiesIn}
use Rattle.bitvec_slice.specs.Seen.{Seen}
use Rattle.bitvec_closures.specs.Pieces.{IsPieceOf, MayEdit, Narrows}
use Rattle.bitvec_slice.specs.Showing.{ShowsElements}
use Rattle.bitvec_closures.specs.InPlace.{StaysInPlace, WritesInPlace}
use Rattle.bitvec_closures.specs.InPlaceLaws.{length-left, length-shown, piece-before, shown-fits, shown-within, stays-then}
use Rattle.bitvec_domain.specs.Predicates.{Asked}
use Rattle.bitvec_lent_split.specs.Lent.{GivesAllIn, GivesRangeIn, LeftIn, LimitedSplitIn, NextIn, SplitNextIn, SplitRestIn}
use Rattle.bitvec_split.specs.Splits.{SplitRule, row_of}
use Rattle.bitvec_closures.specs.ToSplit.{IsLeftOf, TakesFrom, left_at, limited_at, most_left}
use Rattle.bitvec_closures.specs.declared.left.ToSplit.{ToSplit}
use Rattle.bitvec_closures.specs.SplitEdits.{Editing, EditsGiven, EditsNext, IsGivenPiece, MayEditGiven}

-- a range of two lists is the same where a wider one is
kept-within : (a b : List Bool) (from to start end : ℕ) → slice_range a from to ≡ slice_range b from to → from ≤ start → start ≤ end → end ≤ to → to ≤ length a → to ≤ length b
    → slice_range a start end ≡ slice_range b start end
kept-within a b from to start end same low order high fits fits2 =
    let s : from + (start - from) ≡ start = omega arith in
    let e : from + (end - from) ≡ end = omega arith in
    let one = range-range a from to (start - from) (end - from) (omega arith) fits in
    let two = range-range b from to (start - from) (end - from) (omega arith) fits2 in
    cc

-- a step on one view is one on another that has the same bits where it asks
module _ {T P : Type 0} (g : Mut P (ℕ × (Bor Bool × Unit {0})) Bool) (inclusive reversed : Bool) (now view : Seen T) (left after : ToSplit) (pred then : P) where
  gave-on : (row : SplitRule) (piece : Range ℕ) (found : Option ℕ)
      → MatchOption found (GivesAllIn (left_at now left pred) piece (left_at now after then)) (λ j. GivesRangeIn inclusive (row.piece j) (row.keeps j) (left_at now left pred) piece (left_at now after then))
      → MatchOption found (GivesAllIn (left_at view left pred) piece (left_at view after then)) (λ j. GivesRangeIn inclusive (row.piece j) (row.keeps j) (left_at view left pred) piece (left_at view after then))
  gave-on row piece None all = record { start = all.start; end = all.end; view = refl; finished = all.finished }
  gave-on row piece (Some j) range = record { start = range.start; end = range.end; view = refl; from = range.from; to = range.to; finished = range.finished }

  step-on : (result : Option (Range ℕ)) → slice_range now.bits left.from left.to ≡ slice_range view.bits left.from left.to
      → SplitNextIn g inclusive reversed (left_at now left pred) result (left_at now after then) → SplitNextIn g inclusive reversed (left_at view left pred) result (left_at view after then)
  step-on None same gave = (gave.0, ap (λ (s : LeftIn T P). left_at view (record { from = s.from; to = s.to; finished = s.finished }) s.pred) gave.1)
  step-on (Some piece) same gave =
      (gave.0, (gave.1.0, subst (λ (l : List Bool). Asked g l pred (row_of inclusive reversed (left.to - left.from)).asks gave.1.0 then) same gave.1.1, gave-on (row_of inclusive reversed (left.to - left.from)) piece gave.1.0 gave.1.2))

  either-on : (one : Bool) (piece : Range ℕ) → slice_range now.bits left.from left.to ≡ slice_range view.bits left.from left.to
      → MatchBool one (SplitRestIn (left_at now left pred) (Some piece) (left_at now after then)) (SplitNextIn g inclusive reversed (left_at now left pred) (Some piece) (left_at now after then))
      → MatchBool one (SplitRestIn (left_at view left pred) (Some piece) (left_at view after then)) (SplitNextIn g inclusive reversed (left_at view left pred) (Some piece) (left_at view after then))
  either-on true piece same rest = (rest.0, record { start = rest.1.start; end = rest.1.end; view = refl; finished = rest.1.finished }, rest.2)
  either-on false piece same next = step-on (Some piece) same next

  pub next-on : (limited : Bool) (count less : ℕ) (result : Option (Range ℕ)) → slice_range now.bits left.from left.to ≡ slice_range view.bits left.from left.to
      → NextIn g inclusive reversed limited (limited_at now left count pred) result (limited_at now after less then)
      → NextIn g inclusive reversed limited (limited_at view left count pred) result (limited_at view after less then)
  next-on false count less result same gave = step-on result same gave
  next-on true count less None same gave =
      (gave.0, ap (λ (s : LimitedSplitIn T P). limited_at view (record { from = s.left.from; to = s.left.to; finished = s.left.finished }) s.count s.left.pred) gave.1)
  next-on true count less (Some piece) same gave = (gave.0, gave.1, either-on (count == 1) piece same gave.2)

module _ {T P : Type 0} (g : Mut P (ℕ × (Bor Bool × Unit {0})) Bool) (inclusive reversed : Bool) where
  -- a split that has ended on one view has on another
  pub ends-on : (now view : Seen T) (left : ToSplit) (pred : P) (limited : Bool) (count : ℕ) (t : LimitedSplitIn T P) → NextIn g inclusive reversed limited (limited_at now left count pred) None t
      → NextIn g inclusive reversed limited (limited_at view left count pred) None (limited_at view left count pred)
  ends-on now view left pred true count t ended = (ended.0, refl)
  ends-on now view left pred false count t ended = (ended.0, refl)

  -- the steps of a split that counts no pieces are those of what is left
  gives-unlimited : (s t : LimitedSplitIn T P) (pieces : List (Range ℕ)) → FoldsTo (λ p r q. NextIn g inclusive reversed false p (Some r) q) s pieces t → FoldsTo (λ p r q. SplitNextIn g inclusive reversed p (Some r) q) s.left pieces t.left
  gives-unlimited s t [] same = ap (λ (p : LimitedSplitIn T P). p.left) same
  gives-unlimited s t (piece ∷ pieces) (next, gave, gives) = (next.left, gave, gives-unlimited next t pieces gives)

  pub edits-unlimited : {V F : Type 0} {shows : V → Seen T} {named : V → GName} {writes : V → V → List Bool → Type 0} {step : F → ℕ → MutBor V → ⊤ → MutBor V → F → Type 0} {first : LimitedSplitIn T P} {before after : V} {edit : F}
      → EditsGiven shows named writes step (NextIn g inclusive reversed false) first before edit after → EditsGiven shows named writes step (SplitNextIn g inclusive reversed) first.left before edit after
  edits-unlimited edits = record {
    pieces = edits.pieces;
    gives = record { last = edits.gives.last.left; gives = gives-unlimited _ _ edits.pieces edits.gives.gives; ends = edits.gives.ends };
    edits = edits.edits;
    stays = edits.stays;
    written = edits.written;
  }

module _ {V T F S : Type 0} (shows : V → Seen T) (named : V → GName) (step : F → ℕ → MutBor V → ⊤ → MutBor V → F → Type 0) (view : V) (next : S → Option (Range ℕ) → S → Type 0) (first : S) (edit : F) where
  -- What comes from here on ends what came from the start on: the split of the view before all edits is at `s`,
  -- of which `left` is left, and the view is `now`, and there nothing is edited yet.
  pub record CallsSoFar (s : S) (left : ToSplit) (now : V) (f : F) (number : ℕ) : Type 0 where
    pub stays : StaysInPlace shows named view now
    pub inside : IsLeftOf (shows view) left
    pub rest : slice_range (shows now).bits left.from left.to ≡ slice_range (shows view).bits left.from left.to
    pub few : number + most_left left ≤ (shows view).window.len + 1
    pub ends : (pieces : List (Range ℕ)) (t : S) (e : Editing F) → FoldsTo (λ p r q. next p (Some r) q) s pieces t
        → FoldsTo (EditsNext shows named step view) (record { bits = (shows now).bits; edit = f; number = number }) pieces e
        → (all : List (Range ℕ)) × FoldsTo (λ p r q. next p (Some r) q) first all t × FoldsTo (EditsNext shows named step view) (record { bits = (shows view).bits; edit = edit; number = 0 }) all e

module _ {V T F S : Type 0} {shows : V → Seen T} {named : V → GName} {step : F → ℕ → MutBor V → ⊤ → MutBor V → F → Type 0} {view : V} {next : S → Option (Range ℕ) → S → Type 0} {first s : S} {edit : F} where
  -- the edit may be called on the next piece
  pub in_turn-may : {pre : F → ℕ → MutBor V → Type 0} {left : ToSplit} {now : V} {f : F} {number : ℕ} → CallsSoFar shows named step view next first edit s left now f number → MayEditGiven shows named pre step edit view
      → MayEdit shows named (pre f number) (λ p r q. (g : F) × step f number p r q g) (IsGivenPiece (shows view) number)
  in_turn-may {pre} {left} {now} {f} {number} far may =
      let so = far.ends [] s (record { bits = (shows now).bits; edit = f; number = number }) refl refl in
      may.at _ so.0 so.2

  module _ {b : ℕ} {at : ℕ → ℕ → ℕ} {value : T → ℕ} (sound : (v : V) → ShowsElements b at value (shows v)) {left after : ToSplit} {now : V} {f : F} {number : ℕ} {range : Range ℕ} (far : CallsSoFar shows named step view next first edit s left now f number) (takes : TakesFrom left range after) where
    -- the piece lies in the view as it is now, and is one of the view before
    pub piece-lies : LiesIn (shows now).window.len range
    piece-lies =
        let same = ap (λ (w : Window). w.len) far.stays.window in
        let bound = far.inside.bound in
        let end = takes.end in
        (takes.order, omega arith)

    same-at : (start end : ℕ) → left.from ≤ start → start ≤ end → end ≤ left.to → slice_range (shows now).bits start end ≡ slice_range (shows view).bits start end
    same-at start end low order high =
        let same = ap (λ (w : Window). w.len) far.stays.window in
        let bound = far.inside.bound in
        let long = length-shown (sound now) in
        let wide = length-shown (sound view) in
        kept-within (shows now).bits (shows view).bits left.from left.to start end far.rest low order high (omega arith) (omega arith)

    pub piece-given : {window : Window} {piece : V} → Narrows shows named now range window piece → IsPieceOf (shows view) range (shows piece)
    piece-given narrowed = piece-before range far.stays (same-at range.start range.end takes.start takes.order takes.end) narrowed.part

    pub given-piece : {window : Window} {piece : V} → Narrows shows named now range window piece → IsGivenPiece (shows view) number (shows piece)
    given-piece narrowed =
        let few = far.few in
        let fewer = takes.fewer in
        let fits = shown-fits (sound view) in
        let within = (shown-within (sound view)).len in
        let bound = far.inside.bound in
        let end = takes.end in
        record {
          range = range;
          lies = (takes.order, omega arith);
          part = piece-given narrowed;
          below = omega arith;
          bound = omega arith;
        }

    -- it was edited, and the bits that are left are as before
    pub in_turn-next : {t : S} {h : F} {p q : MutBor V} {later : V} → next s (Some range) t → IsPieceOf (shows view) range (shows p.now) → step f number p tt q h → StaysInPlace shows named p.now q.now
        → WritesInPlace shows named now later (write_at (shows now).bits range.start (shows q.now).bits) → CallsSoFar shows named step view next first edit t after later h (number + 1)
    in_turn-next {t} {h} {p} {q} {later} gave is stepped kept wrote =
        let new = (shows q.now).bits in
        let long = length-left sound is kept in
        let same = ap (λ (w : Window). w.len) far.stays.window in
        let bound = far.inside.bound in
        let wide = length-shown (sound now) in
        let few = far.few in
        let fewer = takes.fewer in
        let order = takes.order in
        let end = takes.end in
        let to = takes.to in
        let elsewhere : slice_range (write_at (shows now).bits range.start new) after.from after.to ≡ slice_range (shows now).bits after.from after.to =
        ⊎_elim (λ behind. range-write_at_after (shows now).bits range.start new after.from after.to (omega arith) (omega arith) (omega arith))
        (λ before. range-write_at_before (shows now).bits range.start new after.from after.to (omega arith) before) takes.apart in
        record {
          stays = stays-then far.stays wrote.stays;
          inside = record { order = takes.rest; bound = omega arith };
          rest = ap (λ (l : List Bool). slice_range l after.from after.to) wrote.bits ∙ elsewhere ∙ same-at after.from after.to takes.from takes.rest takes.to;
          few = omega arith;
          ends = λ pieces u e rest edits. far.ends (range ∷ pieces) u e (t, gave, rest)
              (record { bits = (shows later).bits; edit = h; number = number + 1 }, record { piece = p; left = q; lies = (order, omega arith); is = is; stepped = stepped; stays = kept; bits = wrote.bits; number = refl }, edits);
        }
