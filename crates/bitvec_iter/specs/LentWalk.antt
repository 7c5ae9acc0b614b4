-- What contracts see of a walk that lends the pieces of a view.
use Rattle.std.specs.Prelude.{◌≡◌, ℕ, ◌+◌, ◌-◌, Bool, List, false, if◌then◌else◌, min}
use Rattle.std.specs.declared.ops.Range.{Range}
use Rattle.bitvec_cutting.specs.Cutting.{cut}
use Rattle.bitvec_cutting.specs.Walks.{walk as pieces}
use Rattle.bitvec_slice.specs.Seen.{IsRangeOf, Seen}

-- A walk that lends pieces: its view and way to cut, the numbers left, and whether the remainder was taken.
pub record Walk (T C : Type 0) : Type 0 where
  pub view : Seen T
  pub cutting : C
  pub front : ℕ
  pub back : ℕ
  pub taken : Bool

module _ {T C : Type 0} where
  -- The walk has all `count` pieces of the view left.
  pub record IsWalkOf (all : Seen T) (count : ℕ) (walk : Walk T C) : Type 0 where
    pub view : walk.view ≡ all
    pub front : walk.front ≡ 0
    pub back : walk.back ≡ count
    pub taken : walk.taken ≡ false

  -- The view is the walk's piece with this number, where elements have `b` bits.
  abbrev pub IsPieceOfWalk : ℕ → (C → ℕ → ℕ → Range ℕ) → Walk T C → ℕ → Seen T → Type 0
  IsPieceOfWalk b place walk number part =
      let range = place walk.cutting walk.view.window.len number in
      IsRangeOf b walk.view range.start range.end part

  -- the bits of each piece that is left
  abbrev pub lists_left : (C → ℕ → ℕ → Range ℕ) → Walk T C → List (List Bool)
  lists_left place walk = pieces (λ number. cut walk.view.bits (place walk.cutting walk.view.window.len number)) walk.front walk.back

  -- The walk without its first `count` pieces, or without all where it has fewer.
  abbrev pub past : Walk T C → ℕ → Walk T C
  past walk count = record walk { front = walk.front + min count (walk.back - walk.front) }

  -- The walk without its last `count` pieces, or without all where it has fewer.
  abbrev pub past_back : Walk T C → ℕ → Walk T C
  past_back walk count = record walk { back = walk.back - min count (walk.back - walk.front) }

  -- The range of the bits that no piece has, or an empty one where it was taken.
  abbrev pub rest_of : (C → ℕ → Range ℕ) → Walk T C → Range ℕ
  rest_of left_over walk = if walk.taken then (record { start = 0; end = 0 }) else left_over walk.cutting walk.view.window.len
