-- Chunks as the ranges from their first index on.
use Rattle.std.specs.Prelude.{◌≡◌, ℕ, ◌+◌, ◌*◌, ◌<◌, List, length, slice_range}
use Rattle.std.proofs.Common.{arith}
use Rattle.std.proofs.Math.Nat.{add-mul, lt_of_mul-lt-mul_right}
use Rattle.std.proofs.lemmas.Grind.{div_ceil_times}
use Rattle.std.proofs.lemmas.List.{places, same_lists}
use Rattle.bitvec_cutting.specs.Cutting.{chunk, chunk_count, cut}

-- A chunk has the values of its range of `size` places, which may end behind the list.
pub chunk-range : {X : Type 0} {len : ℕ} (xs : List X) (size k : ℕ) → length xs ≡ len → cut xs (chunk size len k) ≡ slice_range xs (k * size) (k * size + size)
chunk-range xs size k long =
    let next = add-mul k 1 size in
    same_lists _ _ (grind (arith, places)) (λ i d inside. grind (arith, places))

-- A chunk that begins in the list is one of its chunks.
pub chunk-counted : {len : ℕ} (size k : ℕ) → 0 < size → k * size < len → k < chunk_count size len
chunk-counted {len} size k some begins =
    let ends = div_ceil_times len size some in
    lt_of_mul-lt-mul_right size (omega arith)
