-- Numbers of a row, each by those before it: the first, the row without the first, and a number that fits its bits; a row beside an edit.
use Rattle.std.specs.Prelude.{◌≡◌, ℕ, ◌+◌, ◌*◌, ◌%◌, ◌^◌, ◌<◌, ◌≤◌, ◌⊎◌, Bool, List, [], ◌∷◌, length}
use Rattle.std.proofs.Common.{arith, inl, inr, ◌∙◌, ⊎_elim}
use Rattle.std.proofs.lemmas.List.Sums.{sum_by-cons}
use Rattle.std.proofs.lemmas.Nat.{mod_low}
use Rattle.bitvec_in_place.specs.ChangesLaws.{number-unchanged}
use Rattle.bitvec_in_place.specs.Ranges.{ChangesOnly, number_in}
use Rattle.bitvec_in_place.specs.Rows.{HasRow, StandInRow, row_len}

-- The first number of a row is that of as many bits as its width, as far as it fits.
pub row-first : (high : Bool) (b : ℕ) (list : List Bool) (a e from : ℕ) (field : ℕ × ℕ) (row : List (ℕ × ℕ)) → HasRow high b list from (field ∷ row) → a ≡ from → e ≡ from + field.0
    → number_in high high b list a e ≡ field.1 % 2 ^ field.0
row-first high b list a e from field row has start end = rw (end, start) has.numbers.0

-- Behind the first number of a row the others stand as a row.
pub row-rest : (high : Bool) (b : ℕ) (list : List Bool) (from : ℕ) (field : ℕ × ℕ) (row : List (ℕ × ℕ)) → HasRow high b list from (field ∷ row) → HasRow high b list (from + field.0) row
row-rest high b list from field row has = record { numbers = has.numbers.1 }

-- A number below `2^width` is what is left of it in `width` bits.
pub remainder-whole : (number width : ℕ) → number < 2 ^ width → number % 2 ^ width ≡ number
remainder-whole number width fits =
    let none : 0 * 2 ^ width + number ≡ number = omega arith in
    rw none at (mod_low 0 width number fits)

module _ (high : Bool) (b : ℕ) (old new : List Bool) (a e : ℕ) (kept : ChangesOnly a e old new) where
  stands : (from : ℕ) (row : List (ℕ × ℕ)) → from + row_len row ≤ length old → (from + row_len row ≤ a) ⊎ (e ≤ from) → StandInRow high b old from row → StandInRow high b new from row
  stands from [] inside apart has = tt
  stands from (field ∷ row) inside apart has =
      let total : row_len (field ∷ row) ≡ field.0 + row_len row = sum_by-cons (λ (f : ℕ × ℕ). f.0) field row in
      ⊎_elim
      (λ (before : from + row_len (field ∷ row) ≤ a). (
        number-unchanged high high b old new a e from (from + field.0) kept (omega arith) (inl (omega arith)) ∙ has.0,
        stands (from + field.0) row (omega arith) (inl (omega arith)) has.1,
      ))
      (λ (behind : e ≤ from). (
        number-unchanged high high b old new a e from (from + field.0) kept (omega arith) (inr behind) ∙ has.0,
        stands (from + field.0) row (omega arith) (inr (omega arith)) has.1,
      )) apart

  -- A row stands as it did after a change beside it, as after a second row was put behind it.
  pub row-kept : (from : ℕ) (row : List (ℕ × ℕ)) → HasRow high b old from row → from + row_len row ≤ length old → (from + row_len row ≤ a) ⊎ (e ≤ from) → HasRow high b new from row
  row-kept from row has inside apart = record { numbers = stands from row inside apart has.numbers }
