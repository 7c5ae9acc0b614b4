-- A walk over numbered pieces: those of an interval of numbers, that are still to come.
use Rattle.std.specs.Prelude.{ℕ, ◌-◌, List, length, map}
use Rattle.std.specs.List.{range_with_len}
use Rattle.std.specs.declared.ops.Range.{Range}
use Rattle.bitvec_cutting.specs.Cutting.{chunk, chunk_count, cut}

-- the pieces with the numbers from `front` up to, without, `back`
unfoldable pub walk : {X : Type 0} → (ℕ → X) → ℕ → ℕ → List X
walk piece front back = map piece (range_with_len front (back - front))

-- All pieces of a list that is cut so.
abbrev pub cut_all : {X : Type 0} → (ℕ → ℕ) → (ℕ → ℕ → Range ℕ) → List X → List (List X)
cut_all pieces place xs = walk (λ number. cut xs (place (length xs) number)) 0 (pieces (length xs))

-- All chunks of a list, as `chunks` of std and `bitvec` gives them.
abbrev pub chunks_of : {X : Type 0} → ℕ → List X → List (List X)
chunks_of size = cut_all (chunk_count size) (chunk size)
