-- What is left of a split that lends its pieces, and what each call asks, lends and leaves. The bits that are
-- left are a range of the view that was split.
use Rattle.std.specs.Prelude.{◌≡◌, ℕ, ◌+◌, ◌-◌, ◌==◌, ◌&&◌, ◌⊎◌, Bool, true, false, List, [], Option, Some, None, IfSome, MatchOption, if◌then◌else◌, min, not, slice_range}
use Rattle.std.specs.Bool.{MatchBool}
use Rattle.std.specs.Borrow.{Bor}
use Rattle.std.specs.Fn.{Mut, always_mut}
use Rattle.std.specs.declared.ops.Range.{Range}
use Rattle.bitvec_slice.specs.Indices.{HasRange}
use Rattle.bitvec_slice.specs.Seen.{IsRangeOf, Seen}
use Rattle.bitvec_domain.specs.Predicates.{MayAsk}
use Rattle.bitvec_split.specs.Splits.{Limited, LimitedBy, RestBy, SplitRule, StepBy, row_of}

-- What a lending split has left: its view, the range of bits in no piece yet, whether it is finished, and its predicate.
pub record LeftIn (T P : Type 0) : Type 0 where
  pub view : Seen T
  pub from : ℕ
  pub to : ℕ
  pub finished : Bool
  pub pred : P

-- What a limited lending split has left, and how many pieces it may still lend.
abbrev pub LimitedSplitIn : (T P : Type 0) → Type 0
LimitedSplitIn T P = Limited (LeftIn T P)

module _ {T P : Type 0} where
  -- A lending split of all bits of a view, which is finished if it is inclusive and the view is empty.
  abbrev pub unsplit_in : Bool → Seen T → P → LeftIn T P
  unsplit_in inclusive view pred = record { view = view; from = 0; to = view.window.len; finished = inclusive && (view.window.len == 0); pred = pred }

  -- How many pieces a lending split will lend at least.
  abbrev pub least_in : LeftIn T P → ℕ
  least_in s = if s.finished then 0 else 1

  -- How many pieces a lending split will lend at most.
  abbrev pub most_in : LeftIn T P → ℕ
  most_in s = if s.finished then 0 else s.to - s.from + 1

  -- The bits of which a lending split has still to make pieces.
  abbrev pub uncut_in : LeftIn T P → List Bool
  uncut_in s = if s.finished then [] else slice_range s.view.bits s.from s.to

  -- The piece is all that was left, and the split is finished.
  pub record GivesAllIn (s : LeftIn T P) (piece : Range ℕ) (t : LeftIn T P) : Type 0 where
    pub start : piece.start ≡ s.from
    pub end : piece.end ≡ s.to
    pub view : t.view ≡ s.view
    pub finished : t.finished ≡ true

  -- The call gives all that is left as the last piece, without asking, or nothing where the split is finished.
  abbrev pub SplitRestIn : LeftIn T P → Option (Range ℕ) → LeftIn T P → Type 0
  SplitRestIn s result t = RestBy s.finished (t ≡ s) (λ piece. GivesAllIn s piece t) (t.pred ≡ s.pred) result

  -- The piece is one range of what was left, and another range is left afterwards.
  pub record GivesRangeIn (inclusive : Bool) (range rest : ℕ × ℕ) (s : LeftIn T P) (piece : Range ℕ) (t : LeftIn T P) : Type 0 where
    pub start : piece.start ≡ s.from + range.0
    pub end : piece.end ≡ s.from + range.1
    pub view : t.view ≡ s.view
    pub from : t.from ≡ s.from + rest.0
    pub to : t.to ≡ s.from + rest.1
    pub finished : t.finished ≡ (inclusive && (t.to - t.from == 0))

module _ {T P : Type 0} (g : Mut P (ℕ × (Bor Bool × Unit {0})) Bool) where
  -- The predicate may always be called, or, in a split that isn't finished, asked about all bits left.
  abbrev pub MayGoOnIn : LeftIn T P → Type 0
  MayGoOnIn s = always_mut g s.pred ⊎ (s.finished ≡ false → MayAsk g (s.to - s.from) s.pred)

  -- A call by a rule gives a range of the view as `SplitStep` gives a view.
  abbrev pub SplitStepIn : Bool → SplitRule → LeftIn T P → Option (Range ℕ) → LeftIn T P → Type 0
  SplitStepIn inclusive row s result t =
      StepBy s.finished (t ≡ s) (λ piece. GivesAllIn s piece t) g (slice_range s.view.bits s.from s.to) s.pred t.pred (λ range rest piece. GivesRangeIn inclusive range rest s piece t) row result

  -- A call of `next` gives a range of the view by the rule of its end, which is the back in a reversed split.
  abbrev pub SplitNextIn : Bool → Bool → LeftIn T P → Option (Range ℕ) → LeftIn T P → Type 0
  SplitNextIn inclusive reversed s result t = SplitStepIn inclusive (row_of inclusive reversed (s.to - s.from)) s result t

  -- A call of `next_back` gives a range of the view by the rule of its end, which is the front in a reversed split.
  abbrev pub SplitNextBackIn : Bool → Bool → LeftIn T P → Option (Range ℕ) → LeftIn T P → Type 0
  SplitNextBackIn inclusive reversed s result t = SplitStepIn inclusive (row_of inclusive (not reversed) (s.to - s.from)) s result t

  -- A call of `next` of a limited split gives a range of the view: at its limit nothing, and as its last piece all that is left.
  abbrev pub LimitedNextIn : Bool → Bool → LimitedSplitIn T P → Option (Range ℕ) → LimitedSplitIn T P → Type 0
  LimitedNextIn inclusive reversed s result t =
      LimitedBy (λ left. left.finished) (λ left piece rest. SplitRestIn left (Some piece) rest) (λ left piece rest. SplitNextIn inclusive reversed left (Some piece) rest) s result t

  -- A call of `next` gives a range of the view, by the limit where the split has one.
  abbrev pub NextIn : Bool → Bool → Bool → LimitedSplitIn T P → Option (Range ℕ) → LimitedSplitIn T P → Type 0
  NextIn inclusive reversed limited s result t = MatchBool limited (LimitedNextIn inclusive reversed s result t) (SplitNextIn inclusive reversed s.left result t.left)

-- The number of pieces, but at most `count` where the split has a limit.
abbrev pub capped : Bool → ℕ → ℕ → ℕ
capped limited count pieces = if limited then min pieces count else pieces

-- The range, where one was found.
abbrev pub piece_if : Bool → Range ℕ → Option (Range ℕ)
piece_if found range = if found then Some range else None

-- The view stays, and the range that a step gave lies in it.
pub record StaysIn {T P : Type 0} (s : LeftIn T P) (result : Option (Range ℕ)) (t : LeftIn T P) : Type 0 where
  pub view : t.view ≡ s.view
  pub inside : IfSome result (λ range. HasRange range s.view.window.len)

-- A call lends the range of the view that the step gives, if it gives one.
abbrev pub Lends : {T S : Type 0} → ℕ → Seen T → (Option (Range ℕ) → S → Type 0) → Option (Seen T) → Type 0
Lends {T} {S} b view step result =
    MatchOption result ((t : S) × step None t) (λ piece. (range : Range ℕ) × (t : S) × step (Some range) t × IsRangeOf b view range.start range.end piece)

-- A call of `next` lends the piece of a split, by the limit where the split has one.
abbrev pub LendsNextIn : {T P : Type 0} → ℕ → Mut P (ℕ × (Bor Bool × Unit {0})) Bool → Bool → Bool → Bool → LimitedSplitIn T P → Option (Seen T) → Type 0
LendsNextIn b g inclusive reversed limited s result =
    MatchBool limited (Lends b s.left.view (LimitedNextIn g inclusive reversed s) result) (Lends b s.left.view (SplitNextIn g inclusive reversed s.left) result)
