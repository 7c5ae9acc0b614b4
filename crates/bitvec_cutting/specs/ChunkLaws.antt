-- The chunks of a list, joined, are the list, and a sum over all of them is the sum over the list.
use Rattle.std.specs.Prelude.{◌≡◌, ℕ, zero, suc, ◌+◌, ◌*◌, ◌<◌, List, [], ◌∷◌, ◌++◌, Bool, count_by, drop, length, min, refl, sum_by}
use Rattle.std.specs.List.{flat_map}
use Rattle.std.proofs.Common.{arith, ◌∙◌, ap, sym}
use Rattle.std.proofs.Math.Nat.{add-mul}
use Rattle.std.proofs.lemmas.Grind.{div_ceil_times}
use Rattle.std.proofs.lemmas.List.{drop_all, drop_min}
use Rattle.std.proofs.lemmas.List.Folds.{drop_split}
use Rattle.std.proofs.lemmas.List.Sums.{sum_by-append, sum_by-cons}
use Rattle.bitvec_cutting.specs.Cutting.{chunk, chunk_count, cut}
use Rattle.bitvec_cutting.specs.CuttingLaws.{begins}
use Rattle.bitvec_cutting.specs.WalkLaws.{walk_first, walk_none}
use Rattle.bitvec_cutting.specs.Walks.{chunks_of, walk}

module _ {X P : Type 0} (shows : P → List X) (piece : ℕ → P) (size len : ℕ) (xs : List X) where
  -- The pieces show the chunks of the list.
  abbrev pub ShowChunks : Type 0
  ShowChunks = (number : ℕ) → shows (piece number) ≡ cut xs (chunk size len number)

  module _ (some : 0 < size) (long : length xs ≡ len) (are : ShowChunks) where
    joined_from : (more number : ℕ) → number + more ≡ chunk_count size len → flat_map shows (walk piece number (chunk_count size len)) ≡ drop (number * size) xs
    joined_from zero number last =
        let end = div_ceil_times len size some in
        let same : number ≡ chunk_count size len = omega arith in
        let up = ap (λ (k : ℕ). k * size) same in
        ap (flat_map shows) (walk_none piece number (chunk_count size len) (omega arith)) ∙ sym (drop_all (number * size) xs (omega arith))
    joined_from (suc more) number last =
        let below = begins size len some number (omega arith) in
        let next = add-mul number 1 size in
        ap (flat_map shows) (walk_first piece number (chunk_count size len) (omega arith))
        ∙ ap (λ l. l ++ flat_map shows (walk piece (number + 1) (chunk_count size len))) (are number)
        ∙ ap (λ l. cut xs (chunk size len number) ++ l) (joined_from more (number + 1) (omega arith) ∙ sym (drop_min ((number + 1) * size) xs) ∙ ap (λ k. drop (min ((number + 1) * size) k) xs) long)
        ∙ sym (drop_split xs (number * size) (min ((number + 1) * size) len) (omega arith))

    -- Pieces that show the chunks of a list, joined, are the list.
    pub pieces_joined : flat_map shows (walk piece 0 (chunk_count size len)) ≡ xs
    pieces_joined =
        let first : 0 * size ≡ 0 = omega arith in
        joined_from (chunk_count size len) 0 (omega arith) ∙ ap (λ k. drop k xs) first

-- A sum over joined lists is the sum of the sums over each.
pub sum_joined : {P X : Type 0} (add : X → ℕ) (shows : P → List X) (pieces : List P) → sum_by add (flat_map shows pieces) ≡ sum_by (λ piece. sum_by add (shows piece)) pieces
sum_joined add shows [] = refl
sum_joined add shows (piece ∷ pieces) =
    sum_by-append add (shows piece) (flat_map shows pieces)
    ∙ ap (λ n. sum_by add (shows piece) + n) (sum_joined add shows pieces)
    ∙ sym (sum_by-cons (λ p. sum_by add (shows p)) piece pieces)

module _ {X : Type 0} (size : ℕ) (xs : List X) (some : 0 < size) where
  -- The chunks of a list, joined, are the list.
  pub chunks_joined : flat_map (λ piece. piece) (chunks_of size xs) ≡ xs
  chunks_joined = pieces_joined (λ piece. piece) (λ number. cut xs (chunk size (length xs) number)) size (length xs) xs some refl (λ number. refl)

  -- The values that pass a test, counted in each chunk, are together those of the list.
  pub chunks_counted : (test : X → Bool) → sum_by (λ piece. count_by test piece) (chunks_of size xs) ≡ count_by test xs
  chunks_counted test = sym (sum_joined _ (λ piece. piece) (chunks_of size xs)) ∙ ap (count_by test) chunks_joined

-- These laws tell that the chunks of a list keep its values and what is counted of them.
pub ruleset joining = (chunks_joined, chunks_counted)
