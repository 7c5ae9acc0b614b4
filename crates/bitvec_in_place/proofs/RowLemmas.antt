-- Numbers one behind the other: the width of one of them, with one more of them, and beside an edit.
use Rattle.std.specs.Prelude.{◌≡◌, ℕ, suc, ◌+◌, ◌%◌, ◌^◌, ◌<◌, ◌≤◌, Bool, List, [], ◌∷◌, ◌++◌, IsTrue, drop, length, nat_le, refl, slice_index_or, slice_set, take}
use Rattle.std.specs.List.{list_all}
use Rattle.std.proofs.Common.{arith, inl, ◌∙◌, ap, append_assoc, sym}
use Rattle.std.proofs.Math.Seq.{get_or-append_seam, set-append_seam}
use Rattle.std.proofs.lemmas.Bool.{leb-true}
use Rattle.std.proofs.lemmas.List.{drop_more, length-append, length-take-le, take-append-drop, take_more}
use Rattle.std.proofs.lemmas.List.Sums.{AllPass-from_list_all, sum_by-cons, sum_by_push}
use Rattle.bitvec_in_place.specs.ChangesLaws.{number-unchanged}
use Rattle.bitvec_in_place.specs.Ranges.{ChangesOnly, number_in}
use Rattle.bitvec_in_place.specs.Rows.{HasRow, StandInRow, row_in, row_len}

-- each of their widths is at most 64 where all of them are
pub width-fits : (row : List (ℕ × ℕ)) (i : ℕ) (d : ℕ × ℕ) → IsTrue (list_all (λ (field : ℕ × ℕ). nat_le field.0 64) row) → i < length row → (slice_index_or row i d).0 ≤ 64
width-fits row i d fit inside = leb-true _ _ (AllPass-from_list_all (λ (field : ℕ × ℕ). nat_le field.0 64) row fit i d inside)

-- an edit behind them leaves them
row-unchanged : (high : Bool) (b : ℕ) (old new : List Bool) (m e from : ℕ) (row : List (ℕ × ℕ)) → ChangesOnly m e old new → m ≤ length old → from + row_len row ≤ m → StandInRow high b old from row → StandInRow high b new from row
row-unchanged high b old new m e from [] kept inside order has = tt
row-unchanged high b old new m e from (field ∷ row) kept inside order has =
    let total : row_len (field ∷ row) ≡ field.0 + row_len row = sum_by-cons (λ (f : ℕ × ℕ). f.0) field row in (
      number-unchanged high high b old new m e from (from + field.0) kept (omega arith) (inl (omega arith)) ∙ has.0,
      row-unchanged high b old new m e (from + field.0) row kept inside (omega arith) has.1,
    )

-- one more stands behind them
row-push : (high : Bool) (b : ℕ) (list : List Bool) (from m : ℕ) (row : List (ℕ × ℕ)) (field : ℕ × ℕ) → m ≡ from + row_len row → StandInRow high b list from row
    → number_in high high b list m (m + field.0) ≡ field.1 % 2 ^ field.0 → StandInRow high b list from (row ++ field ∷ [])
row-push high b list from m [] field at has number =
    let here : m ≡ from = omega arith in
    (rw here at number, tt)
row-push high b list from m (first ∷ row) field at has number =
    let total : row_len (first ∷ row) ≡ first.0 + row_len row = sum_by-cons (λ (f : ℕ × ℕ). f.0) first row in
    (has.0, row-push high b list (from + first.0) m row field (omega arith) has.1 number)

pub row_len-more : (row : List (ℕ × ℕ)) (i : ℕ) (d : ℕ × ℕ) → i < length row → row_len (take (i + 1) row) ≡ row_len (take i row) + (slice_index_or row i d).0
row_len-more row i d inside = ap (λ (l : List (ℕ × ℕ)). row_len l) (take_more row i d inside) ∙ sum_by_push (λ (f : ℕ × ℕ). f.0) (take i row) (slice_index_or row i d)

-- the next of them was stored behind those before it
pub row-more : (high : Bool) (b : ℕ) (old new : List Bool) (from m e i : ℕ) (row : List (ℕ × ℕ)) (d : ℕ × ℕ) → HasRow high b old from (take i row) → ChangesOnly m e old new
    → number_in high high b new m (m + (slice_index_or row i d).0) ≡ (slice_index_or row i d).1 % 2 ^ (slice_index_or row i d).0
    → m ≡ from + row_len (take i row) → m ≤ length old → i < length row → HasRow high b new from (take (i + 1) row)
row-more high b old new from m e i row d has kept number at inside more =
    let before = row-unchanged high b old new m e from (take i row) kept inside (omega arith) has.numbers in
    record { numbers = rw (take_more row i d more) (row-push high b new from m (take i row) (slice_index_or row i d) at before number) }

-- one more is read behind them
row_in-push : (high : Bool) (b : ℕ) (list : List Bool) (from m : ℕ) (row : List (ℕ × ℕ)) (field : ℕ × ℕ) → m ≡ from + row_len row
    → row_in high b list from (row ++ field ∷ []) ≡ row_in high b list from row ++ (field.0, number_in high high b list m (m + field.0)) ∷ []
row_in-push high b list from m [] field at =
    let here : m ≡ from = omega arith in
    rw here refl
row_in-push high b list from m (first ∷ row) field at =
    let total : row_len (first ∷ row) ≡ first.0 + row_len row = sum_by-cons (λ (f : ℕ × ℕ). f.0) first row in
    ap (λ (l : List (ℕ × ℕ)). (first.0, number_in high high b list from (from + first.0)) ∷ l) (row_in-push high b list (from + first.0) m row field (omega arith))

pub length-row_in : (high : Bool) (b : ℕ) (list : List Bool) (from : ℕ) (row : List (ℕ × ℕ)) → length (row_in high b list from row) ≡ length row
length-row_in high b list from [] = refl
length-row_in high b list from (field ∷ row) = ap (λ (n : ℕ). suc n) (length-row_in high b list (from + field.0) row)

-- the first i of them were read into a row, and the others are as they were: so it is as long, and the next one is as it was
module _ (high : Bool) (b : ℕ) (list : List Bool) (from i : ℕ) (row now : List (ℕ × ℕ)) (was : now ≡ row_in high b list from (take i row) ++ drop i row) where
  pub read-long : length now ≡ length row
  read-long =
      ap length was ∙ length-append (row_in high b list from (take i row)) (drop i row)
      ∙ ap (λ (n : ℕ). n + length (drop i row)) (length-row_in high b list from (take i row))
      ∙ sym (length-append (take i row) (drop i row)) ∙ ap length (take-append-drop i row)

  pub read-next : (d : ℕ × ℕ) → i < length row → slice_index_or now i d ≡ slice_index_or row i d
  read-next d more =
      let before = row_in high b list from (take i row) in
      let long : length before ≡ i = length-row_in high b list from (take i row) ∙ length-take-le i row (omega arith) in
      let rest = drop_more row i d more in
      rw (was, rest)
      (ap (λ (k : ℕ). slice_index_or (before ++ slice_index_or row i d ∷ drop (i + 1) row) k d) (sym long)
      ∙ get_or-append_seam before (slice_index_or row i d) (drop (i + 1) row) d)

  -- that one is read
  pub read-more : (m number : ℕ) (d : ℕ × ℕ) → number ≡ number_in high high b list m (m + (slice_index_or row i d).0) → m ≡ from + row_len (take i row) → i < length row
      → slice_set now i ((slice_index_or row i d).0, number) ≡ row_in high b list from (take (i + 1) row) ++ drop (i + 1) row
  read-more m number d is at more =
      let field = slice_index_or row i d in
      let before = row_in high b list from (take i row) in
      let made : ℕ × ℕ = (field.0, number_in high high b list m (m + field.0)) in
      let long : length before ≡ i = length-row_in high b list from (take i row) ∙ length-take-le i row (omega arith) in
      let next = row_in-push high b list from m (take i row) field at in
      let set : slice_set (before ++ field ∷ drop (i + 1) row) i made ≡ (before ++ made ∷ []) ++ drop (i + 1) row =
      ap (λ (k : ℕ). slice_set (before ++ field ∷ drop (i + 1) row) k made) (sym long)
      ∙ set-append_seam before field (drop (i + 1) row) made ∙ sym (append_assoc before (made ∷ []) (drop (i + 1) row)) in
      ap (λ (n : ℕ). slice_set now i (field.0, n)) is
      ∙ ap (λ (l : List (ℕ × ℕ)). slice_set l i made) (was ∙ ap (λ (l : List (ℕ × ℕ)). before ++ l) (drop_more row i d more))
      ∙ set
      ∙ ap (λ (l : List (ℕ × ℕ)). l ++ drop (i + 1) row) (sym next ∙ ap (row_in high b list from) (sym (take_more row i d more)))

pub ruleset rooms = (arith, row_len-more)
