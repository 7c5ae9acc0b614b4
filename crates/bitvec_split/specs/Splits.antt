-- What is left of a split, and what each call asks, gives and leaves.
use Rattle.std.specs.Prelude.{◌≡◌, ℕ, ◌+◌, ◌-◌, ◌<◌, ◌≤◌, ◌==◌, ◌&&◌, ◌⊎◌, Bool, true, false, List, [], Option, Some, MatchOption, if◌then◌else◌, min, not}
use Rattle.std.specs.Bool.{MatchBool}
use Rattle.std.specs.Borrow.{Bor}
use Rattle.std.specs.Fn.{Mut, always_mut}
use Rattle.std.specs.declared.ops.Range.{Range}
use Rattle.bitvec_slice.specs.Seen.{IsRangeOf, Seen}
use Rattle.bitvec_domain.specs.Predicates.{Asked, MayAsk, downward, upward}

-- What a split has left: the bits in no piece yet, whether the last piece was given, and the predicate as it is now.
pub record Left (T P : Type 0) : Type 0 where
  pub rest : Seen T
  pub finished : Bool
  pub pred : P

-- What a limited split has left, and how many pieces it may still give.
pub record Limited (S : Type 0) : Type 0 where
  pub left : S
  pub count : ℕ

-- What a limited split of shared views, such as `splitn` of `bitvec` makes, has left, and how many pieces it may still give.
abbrev pub LimitedSplit : (T P : Type 0) → Type 0
LimitedSplit T P = Limited (Left T P)

module _ {T P : Type 0} where
  -- a split of all bits of a view, which is finished if it is inclusive and the view is empty
  abbrev pub unsplit : Bool → Seen T → P → Left T P
  unsplit inclusive view pred = record { rest = view; finished = inclusive && (view.window.len == 0); pred = pred }

  -- How many pieces a split will give at least.
  abbrev pub least : Left T P → ℕ
  least s = if s.finished then 0 else 1

  -- How many pieces a split will give at most.
  abbrev pub most : Left T P → ℕ
  most s = if s.finished then 0 else s.rest.window.len + 1

  -- How many pieces a limited split will give at most.
  abbrev pub limited_most : LimitedSplit T P → ℕ
  limited_most s = min (most s.left) s.count

  -- The bits of which a split has still to make pieces.
  abbrev pub uncut : Left T P → List Bool
  uncut s = if s.finished then [] else s.rest.bits

-- The predicate may always be called, or, in a split that isn't finished, asked about all bits left.
abbrev pub MayGoOn : {T P : Type 0} → Mut P (ℕ × (Bor Bool × Unit {0})) Bool → Left T P → Type 0
MayGoOn g s = always_mut g s.pred ⊎ (s.finished ≡ false → MayAsk g s.rest.window.len s.pred)

-- where a piece ends whose match is at j: an inclusive split keeps the matched bit, others leave it out
abbrev pub end_of : Bool → ℕ → ℕ
end_of inclusive j = if inclusive then j + 1 else j

-- how many of n bits a call from the back asks about: the last bit ends an inclusive split's last piece, whatever it is
abbrev pub asked_behind : Bool → ℕ → ℕ
asked_behind inclusive n = if inclusive then n - 1 else n

-- How a call goes about n bits: which indices it asks about, and where after a yes at j the piece lies,
-- and what is left.
pub record SplitRule : Type 0 where
  pub asks : List ℕ
  pub piece : ℕ → ℕ × ℕ
  pub keeps : ℕ → ℕ × ℕ

-- The rule of a call from the front: the bits before the first match are the piece, and those behind it are left.
abbrev pub front : Bool → ℕ → SplitRule
front inclusive n = record { asks = upward n; piece = λ j. (0, end_of inclusive j); keeps = λ j. (j + 1, n) }

-- The rule of a call from the back: the bits behind the last match are the piece, and an inclusive split doesn't ask about the last bit.
abbrev pub back : Bool → ℕ → SplitRule
back inclusive n = record { asks = downward (asked_behind inclusive n); piece = λ j. (j + 1, n); keeps = λ j. (0, end_of inclusive j) }

-- The rule of a call of `next`: from the front, or from the back where the split is reversed.
abbrev pub row_of : Bool → Bool → ℕ → SplitRule
row_of inclusive reversed n = if reversed then back inclusive n else front inclusive n

-- How many of `n` bits a call of `next` asks about at most.
abbrev pub asked_of : Bool → Bool → ℕ → ℕ
asked_of inclusive reversed n = if reversed then asked_behind inclusive n else n

-- How many of `n` bits a call of `next` leaves where the match is at `j`.
abbrev pub left_of_row : Bool → Bool → ℕ → ℕ → ℕ
left_of_row inclusive reversed n j = if reversed then end_of inclusive j else n - (j + 1)

-- The piece and the range left are those that the rule gives for a match at `j`.
pub record IsCutBy (row : SplitRule) (j : ℕ) (piece rest : Range ℕ) : Type 0 where
  pub start : piece.start ≡ (row.piece j).0
  pub end : piece.end ≡ (row.piece j).1
  pub from : rest.start ≡ (row.keeps j).0
  pub to : rest.end ≡ (row.keeps j).1

-- The piece and the range left are ranges of `n` bits that have no bit in common, and fewer than `n` are left.
pub record LieBeside (n : ℕ) (piece rest : Range ℕ) : Type 0 where
  pub order : piece.start ≤ piece.end
  pub end : piece.end ≤ n
  pub left : rest.start ≤ rest.end
  pub to : rest.end ≤ n
  pub apart : (piece.end ≤ rest.start) ⊎ (rest.end ≤ piece.start)
  pub fewer : rest.end - rest.start < n

-- What a call does with a split that was `finished` or not, where pieces are of type X: `all piece` says that
-- all that is left is the piece, `same` that the split is as it was.
module _ {X : Type 0} (finished : Bool) (same : Type 0) (all : X → Type 0) where
  -- The call gives all that is left without asking, or nothing where the split is finished.
  abbrev pub RestBy : Type 0 → Option X → Type 0
  RestBy unasked result = MatchOption result ((finished ≡ true) × same) (λ piece. (finished ≡ false) × all piece × unasked)

  -- A finished split gives nothing, and asks nothing. Any other asks as the row says about the bits that
  -- are left, by a predicate that is `next` then, and gives and keeps the row's ranges of them at the first
  -- yes; with no yes it gives all.
  abbrev pub StepBy : {P : Type 0} → Mut P (ℕ × (Bor Bool × Unit {0})) Bool → List Bool → P → P → (ℕ × ℕ → ℕ × ℕ → X → Type 0) → SplitRule → Option X → Type 0
  StepBy g bits pred next ranges row result =
      MatchOption result ((finished ≡ true) × same)
      (λ piece. (finished ≡ false) × ((found : Option ℕ) × Asked g bits pred row.asks found next
      × MatchOption found (all piece) (λ j. ranges (row.piece j) (row.keeps j) piece)))

-- A limited split gives nothing where it may give no piece more; the last that it may give is all that is
-- left, unasked; any other it gives as the plain split does. Each piece takes one from the count.
abbrev pub LimitedBy : {S X : Type 0} → (S → Bool) → (S → X → S → Type 0) → (S → X → S → Type 0) → Limited S → Option X → Limited S → Type 0
LimitedBy finished rest next s result t =
    MatchOption result (((s.count ≡ 0) ⊎ (finished s.left ≡ true)) × (t ≡ s))
    (λ piece. (0 < s.count) × (t.count ≡ s.count - 1)
    × MatchBool (s.count == 1) (rest s.left piece t.left)
    (next s.left piece t.left))

module _ {T P : Type 0} where
  -- The piece is all that was left, and the split is finished.
  pub record GivesAll (s : Left T P) (piece : Seen T) (t : Left T P) : Type 0 where
    pub gives : piece ≡ s.rest
    pub keeps : t.rest ≡ s.rest
    pub finished : t.finished ≡ true

  -- The call gives all that is left as the last piece, without asking, or nothing where the split is finished.
  abbrev pub SplitRest : Left T P → Option (Seen T) → Left T P → Type 0
  SplitRest s result t = RestBy s.finished (t ≡ s) (λ piece. GivesAll s piece t) (t.pred ≡ s.pred) result

module _ {T P : Type 0} (b : ℕ) where
  -- The piece is one range of what was left, and another range is left; an inclusive split with none left is finished.
  pub record GivesRange (inclusive : Bool) (range rest : ℕ × ℕ) (s : Left T P) (piece : Seen T) (t : Left T P) : Type 0 where
    pub gives : IsRangeOf b s.rest range.0 range.1 piece
    pub keeps : IsRangeOf b s.rest rest.0 rest.1 t.rest
    pub finished : t.finished ≡ (inclusive && (t.rest.window.len == 0))

module _ {T P : Type 0} (b : ℕ) (g : Mut P (ℕ × (Bor Bool × Unit {0})) Bool) where
  -- A call by a rule gives the piece that the rule cuts off at the first match, or all that is left where there is none.
  abbrev pub SplitStep : Bool → SplitRule → Left T P → Option (Seen T) → Left T P → Type 0
  SplitStep inclusive row s result t =
      StepBy s.finished (t ≡ s) (λ piece. GivesAll s piece t) g s.rest.bits s.pred t.pred (λ range rest piece. GivesRange b inclusive range rest s piece t) row result

  -- A call of `next` goes by the rule of its end, which is the back in a reversed split.
  abbrev pub SplitNext : Bool → Bool → Left T P → Option (Seen T) → Left T P → Type 0
  SplitNext inclusive reversed s result t = SplitStep inclusive (row_of inclusive reversed s.rest.window.len) s result t

  -- A call of `next_back` goes by the rule of its end, which is the front in a reversed split.
  abbrev pub SplitNextBack : Bool → Bool → Left T P → Option (Seen T) → Left T P → Type 0
  SplitNextBack inclusive reversed s result t = SplitStep inclusive (row_of inclusive (not reversed) s.rest.window.len) s result t

  -- A call of `next` of a limited split gives nothing at its limit, and all that is left as its last piece.
  abbrev pub LimitedNext : Bool → Bool → LimitedSplit T P → Option (Seen T) → LimitedSplit T P → Type 0
  LimitedNext inclusive reversed s result t =
      LimitedBy (λ left. left.finished) (λ left piece rest. SplitRest left (Some piece) rest) (λ left piece rest. SplitNext inclusive reversed left (Some piece) rest) s result t
