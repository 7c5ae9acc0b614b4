-- Numbers that stand one behind the other, each told with its width, as (width, number).
use Rattle.std.specs.Prelude.{◌≡◌, ℕ, ◌+◌, ◌%◌, ◌^◌, Bool, List, [], ◌∷◌}
use Rattle.std.specs.List.{sum_by}
use Rattle.bitvec_in_place.specs.Ranges.{number_in}

-- `row_len row` is how many bits the numbers of a row take: the sum of their widths.
abbrev pub row_len : List (ℕ × ℕ) → ℕ
row_len row = sum_by (λ (field : ℕ × ℕ). field.0) row

-- `StandInRow high b list from row` says that each number, as far as it fits, stands in as many bits as its width, one behind the other,
-- from `from` on.
abbrev pub StandInRow : Bool → ℕ → List Bool → ℕ → List (ℕ × ℕ) → Type 0
StandInRow high b list from [] = Unit {0}
StandInRow high b list from (field ∷ row) = (number_in high high b list from (from + field.0) ≡ field.1 % 2 ^ field.0) × StandInRow high b list (from + field.0) row

-- `row_in high b list from row` is a row of the same widths with the numbers that stand in a list of bits from `from` on, one behind the other.
abbrev pub row_in : Bool → ℕ → List Bool → ℕ → List (ℕ × ℕ) → List (ℕ × ℕ)
row_in high b list from [] = []
row_in high b list from (field ∷ row) = (field.0, number_in high high b list from (from + field.0)) ∷ row_in high b list (from + field.0) row

-- `ReadsRow high b list from old new` says that a row got the numbers that stand from `from` on (`row_in`). It is a record, as `HasRow`.
pub record ReadsRow (high : Bool) (b : ℕ) (list : List Bool) (from : ℕ) (old new : List (ℕ × ℕ)) : Type 0 where
  pub numbers : new ≡ row_in high b list from old

-- `HasRow high b list from row` says that the numbers of a row stand in a list of bits from `from` on (`StandInRow`). It is a record so
-- that a search carries a row of any length as one fact, which laws read.
pub record HasRow (high : Bool) (b : ℕ) (list : List Bool) (from : ℕ) (row : List (ℕ × ℕ)) : Type 0 where
  pub numbers : StandInRow high b list from row
