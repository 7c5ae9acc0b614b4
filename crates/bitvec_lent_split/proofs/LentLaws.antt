-- How a step of a split and a lend make a piece.
use Rattle.std.specs.Prelude.{◌≡◌, ℕ, Bool, true, false, Option, Some, None}
use Rattle.std.specs.Borrow.{Bor}
use Rattle.std.specs.Fn.{Mut}
use Rattle.std.specs.declared.ops.Range.{Range}
use Rattle.std.proofs.Common.{subst}
use Rattle.bitvec_slice.specs.Seen.{IsRangeOf, Seen}
use Rattle.bitvec_lent_split.specs.Lent.{Lends, LendsNextIn, LimitedNextIn, LimitedSplitIn, NextIn, SplitNextIn}

-- a step gave a range and left t, of the same view, and that range of it was lent
pub lends_so : {T S : Type 0} {b : ℕ} {view now : Seen T} (step : Option (Range ℕ) → S → Type 0) (range : Range ℕ) (piece : Seen T) (t : S)
    → step (Some range) t → now ≡ view → IsRangeOf b now range.start range.end piece → Lends b view step (Some piece)
lends_so {b = b} step range piece t gave same is = (range, t, gave, subst (λ v. IsRangeOf b v range.start range.end piece) same is)

-- so it is of a split that has a limit or none, and where the step gave no range nothing is lent
module _ {T P : Type 0} (b : ℕ) (g : Mut P (ℕ × (Bor Bool × Unit {0})) Bool) (inclusive reversed : Bool) (s t : LimitedSplitIn T P) where
  pub lends_next : (limited : Bool) (range : Range ℕ) (piece : Seen T) → NextIn g inclusive reversed limited s (Some range) t → t.left.view ≡ s.left.view
      → IsRangeOf b t.left.view range.start range.end piece → LendsNextIn b g inclusive reversed limited s (Some piece)
  lends_next true range piece gave same is = lends_so (LimitedNextIn g inclusive reversed s) range piece t gave same is
  lends_next false range piece gave same is = lends_so (SplitNextIn g inclusive reversed s.left) range piece t.left gave same is

  pub lends_nothing : (limited : Bool) → NextIn g inclusive reversed limited s None t → LendsNextIn b g inclusive reversed limited s None
  lends_nothing true gave = (t, gave)
  lends_nothing false gave = (t.left, gave)
