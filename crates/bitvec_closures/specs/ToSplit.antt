-- What is left of a view while its pieces are edited in place.
use Rattle.std.specs.Prelude.{◌≡◌, ℕ, ◌+◌, ◌-◌, ◌<◌, ◌≤◌, ◌⊎◌, true, false, MatchOption, Option, if◌then◌else◌}
use Rattle.std.specs.declared.ops.Range.{Range}
use Rattle.bitvec_slice.specs.Seen.{Seen}
use Rattle.bitvec_lent_split.specs.Lent.{LeftIn, LimitedSplitIn}
use Rattle.bitvec_closures.specs.declared.left.ToSplit.{ToSplit}

-- What is left of the view, as a lending split has it.
abbrev pub left_at : {T P : Type 0} → Seen T → ToSplit → P → LeftIn T P
left_at view left pred = record { view = view; from = left.from; to = left.to; finished = left.finished; pred = pred }

-- What is left of the view, and how many pieces may still come, as a limited lending split has it.
abbrev pub limited_at : {T P : Type 0} → Seen T → ToSplit → ℕ → P → LimitedSplitIn T P
limited_at view left count pred = record { left = left_at view left pred; count = count }

-- What is left is a range of the view.
pub record IsLeftOf {T : Type 0} (view : Seen T) (left : ToSplit) : Type 0 where
  pub order : left.from ≤ left.to
  pub bound : left.to ≤ view.window.len

-- How many pieces may come of what is left at most.
abbrev pub most_left : ToSplit → ℕ
most_left left = if left.finished then 0 else left.to - left.from + 1

-- The piece is one range of what was left, another beside it is left, and fewer pieces may come of that.
pub record TakesFrom (before : ToSplit) (piece : Range ℕ) (after : ToSplit) : Type 0 where
  pub start : before.from ≤ piece.start
  pub order : piece.start ≤ piece.end
  pub end : piece.end ≤ before.to
  pub from : before.from ≤ after.from
  pub rest : after.from ≤ after.to
  pub to : after.to ≤ before.to
  pub apart : (piece.end ≤ after.from) ⊎ (after.to ≤ piece.start)
  pub fewer : most_left after < most_left before

-- The call gives all that is left as the last piece, or nothing where the split is finished.
abbrev pub TakesRest : ToSplit → Option (Range ℕ) → ToSplit → Type 0
TakesRest before result after =
    MatchOption result ((before.finished ≡ true) × (after ≡ before))
    (λ piece. (before.finished ≡ false) × (piece ≡ record { start = before.from; end = before.to }) × (after.finished ≡ true) × TakesFrom before piece after)
