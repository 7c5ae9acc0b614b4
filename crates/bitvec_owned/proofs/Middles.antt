-- Lists in which a place was opened or closed by a copy of what stands behind it.
use Rattle.std.specs.Prelude.{◌≡◌, ℕ, ◌+◌, ◌-◌, ◌<◌, ◌≤◌, List, [], ◌∷◌, ◌++◌, drop, length, slice_index_or, slice_range, slice_set, take}
use Rattle.std.specs.List.{insert, remove, remove_range, swap, swap_remove}
use Rattle.std.proofs.Common.{◌∙◌, add-one, ap, append_assoc, arith, length-append, refl, sym}
use Rattle.std.proofs.lemmas.List.{append-nil, drop_all, length-take-le, set_at, take-append-le, take-set, take_all, take_more}
use Rattle.std.proofs.lemmas.List.Edits.{swap_is}
use Rattle.std.proofs.lemmas.Slice.{between_is}
use Rattle.bitvec_base.specs.Lists.{copied_within}
use Rattle.bitvec_base.specs.SliceLaws.{range-to_end}
use Rattle.bitvec_base.specs.Window.{write_at}
use Rattle.bitvec_base.specs.WriteLaws.{length-slice_range, take-written}

module _ {X : Type 0} where
  -- what stands from i on, copied one place further of a list with one value more, and a value written at i
  pub opened : (xs : List X) (y x : X) (i n : ℕ) → n ≡ length xs → i ≤ n → slice_set (copied_within i n (i + 1) (xs ++ y ∷ [])) i x ≡ insert xs i x
  unfolding copied_within write_at
  opened xs y x i n long order =
      let all = xs ++ y ∷ [] in
      let size : length all ≡ length xs + 1 = length-append xs (y ∷ []) in
      let range = slice_range all i n in
      let many : length range ≡ n - i = length-slice_range all i n (omega arith) in
      let is : range ≡ drop i xs =
      between_is all i n ∙ ap (drop i) (take-append-le n xs (y ∷ []) (omega arith) ∙ take_all n xs (omega arith)) in
      let front : take (i + 1) all ≡ take i all ++ slice_index_or all i y ∷ [] = take_more all i y (omega arith) in
      let before = length-take-le i all (omega arith) in
      let behind : drop (i + 1 + length range) all ≡ [] = drop_all (i + 1 + length range) all (omega arith) in
      ap (λ (l : List X). slice_set (l ++ (range ++ drop (i + 1 + length range) all)) i x) front
      ∙ ap (λ (l : List X). slice_set l i x) (append_assoc (take i all) (slice_index_or all i y ∷ []) (range ++ drop (i + 1 + length range) all))
      ∙ set_at (take i all) (slice_index_or all i y) (range ++ drop (i + 1 + length range) all) x i before
      ∙ ap (λ (l : List X). take i all ++ x ∷ l) (ap (λ (l : List X). range ++ l) behind ∙ append-nil range ∙ is)
      ∙ ap (λ (l : List X). l ++ x ∷ drop i xs) (take-append-le i xs (y ∷ []) (omega arith))

  -- what stands from e on, copied to s, and as many values taken from the end as stood between
  pub closed : (xs : List X) (s e n k : ℕ) → n ≡ length xs → s ≤ e → e ≤ n → k ≡ n - (e - s) → take k (copied_within e n s xs) ≡ remove_range xs s e
  unfolding copied_within
  closed xs s e n k long order inside is =
      let range = slice_range xs e n in
      let many : length range ≡ n - e = length-slice_range xs e n (omega arith) in
      take-written xs s k range (omega arith) (omega arith) ∙ ap (λ (l : List X). take s xs ++ l) (range-to_end xs e n (omega arith))

  pub closed_one : (xs : List X) (i n k : ℕ) → n ≡ length xs → i < n → k ≡ n - 1 → take k (copied_within (i + 1) n i xs) ≡ remove xs i
  closed_one xs i n k long inside is = closed xs i (i + 1) n k long (omega arith) (omega arith) (omega arith) ∙ ap (λ (m : ℕ). take i xs ++ drop m xs) (add-one i)

  -- a value and the last one exchanged, and the last one taken
  pub exchanged : (xs : List X) (i k : ℕ) (d : X) → i < length xs → k ≡ length xs - 1 → take k (swap xs i k) ≡ swap_remove xs i d
  exchanged xs i k d inside is =
      ap (take k) (sym (swap_is xs i k d inside (omega arith)))
      ∙ take-set (slice_set xs i (slice_index_or xs k d)) k (slice_index_or xs i d)
      ∙ rw is refl
