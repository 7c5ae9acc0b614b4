-- Elements that a closure edits through a view of all their bits.
use Rattle.std.specs.Prelude.{◌≡◌, ℕ, List, length}
use Rattle.std.specs.Borrow.{MutBor}
use Rattle.bitvec_slice.specs.Seen.{IsWhole, Seen}

-- An edit was called on a view of all bits of the elements `before`, and left a view of all bits of as many elements.
pub record EditsElements {V T R : Type 0} (b : ℕ) (at : ℕ → ℕ → ℕ) (value : T → ℕ) (shows : V → Seen T) (post : MutBor V → R → MutBor V → Type 0) (before : List T) (r : R) (after : List T) : Type 0 where
  pub piece : MutBor V
  pub left : MutBor V
  pub is : IsWhole b at value before (shows piece.now)
  pub edited : post piece r left
  pub left_is : IsWhole b at value after (shows left.now)
  pub length : length after ≡ length before
