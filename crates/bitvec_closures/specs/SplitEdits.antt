-- Pieces of a view that a split gives in turn and that a closure edits.
use Rattle.std.specs.Prelude.{◌≡◌, ℕ, ◌+◌, ◌≤◌, Bool, List, Option, Some, None, ⊤}
use Rattle.std.specs.Borrow.{GName, MutBor}
use Rattle.std.specs.List.{FoldsTo}
use Rattle.std.specs.declared.ops.Range.{Range}
use Rattle.bitvec_base.specs.Window.{max_bits, write_at}
use Rattle.bitvec_cutting.specs.Cutting.{LiesIn}
use Rattle.bitvec_slice.specs.Seen.{Seen}
use Rattle.bitvec_closures.specs.Pieces.{IsPieceOf, MayEdit}
use Rattle.bitvec_closures.specs.InPlace.{StaysInPlace}

-- A split that begins as `first` gave these pieces in turn, and then none.
pub record GivesInTurn {S : Type 0} (next : S → Option (Range ℕ) → S → Type 0) (first : S) (pieces : List (Range ℕ)) : Type 0 where
  pub last : S
  pub gives : FoldsTo (λ s piece t. next s (Some piece) t) first pieces last
  pub ends : next last None last

-- The piece is a range of the view, and its number is at most the number of the view's bits.
pub record IsGivenPiece {T : Type 0} (view : Seen T) (number : ℕ) (piece : Seen T) : Type 0 where
  pub range : Range ℕ
  pub lies : LiesIn view.window.len range
  pub part : IsPieceOf view range piece
  pub below : number ≤ view.window.len
  pub bound : number ≤ max_bits

-- the view's bits as they are now, the edit as it is now, and on how many pieces it was called
pub record Editing (F : Type 0) : Type 0 where
  pub bits : List Bool
  pub edit : F
  pub number : ℕ

module _ {V T : Type 0} (shows : V → Seen T) (named : V → GName) where
  -- The edit was called on the range of the view before all edits, and the bits that it left stand there.
  pub record EditsNext {F : Type 0} (step : F → ℕ → MutBor V → ⊤ → MutBor V → F → Type 0) (view : V) (s : Editing F) (range : Range ℕ) (t : Editing F) : Type 0 where
    pub piece : MutBor V
    pub left : MutBor V
    pub lies : LiesIn (shows view).window.len range
    pub is : IsPieceOf (shows view) range (shows piece.now)
    pub stepped : step s.edit s.number piece tt left t.edit
    pub stays : StaysInPlace shows named piece.now left.now
    pub bits : t.bits ≡ write_at s.bits range.start (shows left.now).bits
    pub number : t.number ≡ s.number + 1

  -- after any such calls on pieces in turn an edit with these steps may be called on the next piece, and leaves it in its place
  pub record MayEditGiven {F : Type 0} (pre : F → ℕ → MutBor V → Type 0) (step : F → ℕ → MutBor V → ⊤ → MutBor V → F → Type 0) (edit : F) (view : V) : Type 0 where
    pub at : (s : Editing F) (pieces : List (Range ℕ)) → FoldsTo (EditsNext step view) (record { bits = (shows view).bits; edit = edit; number = 0 }) pieces s
        → MayEdit shows named (pre s.edit s.number) (λ p r q. (g : F) × step s.edit s.number p r q g) (IsGivenPiece (shows view) s.number)

  -- The edit was called on each of the pieces in turn, and left the bits `new`.
  pub record EditsInTurn {F : Type 0} (step : F → ℕ → MutBor V → ⊤ → MutBor V → F → Type 0) (view : V) (edit : F) (pieces : List (Range ℕ)) (new : List Bool) : Type 0 where
    pub last : Editing F
    pub edits : FoldsTo (EditsNext step view) (record { bits = (shows view).bits; edit = edit; number = 0 }) pieces last
    pub bits : new ≡ last.bits

  -- a split of the view gave pieces, the edit was called on each in turn, and all else is as before
  pub record EditsGiven {F S : Type 0} (writes : V → V → List Bool → Type 0) (step : F → ℕ → MutBor V → ⊤ → MutBor V → F → Type 0)
      (next : S → Option (Range ℕ) → S → Type 0) (first : S) (before : V) (edit : F) (after : V) : Type 0 where
    pub pieces : List (Range ℕ)
    pub gives : GivesInTurn next first pieces
    pub edits : EditsInTurn step before edit pieces (shows after).bits
    pub stays : StaysInPlace shows named before after
    pub written : writes before after (shows after).bits
