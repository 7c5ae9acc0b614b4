-- Elements whose bits are all 0, and elements that were written as a slice of a vector.
use Rattle.std.specs.Prelude.{◌≡◌, ℕ, zero, suc, ◌*◌, false, List, ◌++◌, drop, length, map, replicate, take, refl}
use Rattle.std.proofs.Common.{arith}
use Rattle.std.proofs.lemmas.List.{length-map, length-replicate, take_at}
use Rattle.bitvec_base.specs.FilledLaws.{bits-zeros}
use Rattle.bitvec_base.specs.Memory.{memory_bits}

-- The numbers of elements that are 0 are zeros.
pub numbers : {T : Type 0} (value : T → ℕ) (none : T) (n : ℕ) → value none ≡ 0 → map value (replicate n none) ≡ replicate n 0
numbers value none zero is = refl
numbers value none (suc n) is = rw (is, numbers value none n is) refl

-- The bits of elements that are all 0 are zeros.
pub zeros : {T : Type 0} (b : ℕ) (at : ℕ → ℕ → ℕ) (value : T → ℕ) (none : T) (n : ℕ) → value none ≡ 0 → memory_bits b at (map value (replicate n none)) ≡ replicate (b * n) false
zeros b at value none n is =
    let long : length (replicate n 0) ≡ n = length-replicate {A = ℕ} n 0 in
    rw (numbers value none n is) (rw long at (bits-zeros b at (replicate n 0) (rw long refl)))

-- Two lists that are as long after a function was applied to each value are as long before.
pub same_length : {X Y : Type 0} (f : X → Y) (xs ys : List X) → length (map f xs) ≡ length (map f ys) → length xs ≡ length ys
same_length f xs ys same = let first = length-map xs f in let second = length-map ys f in omega arith

-- A list of `n` values, filled up with old ones, has itself as its first `n` values.
pub refilled : {X : Type 0} (xs old : List X) (n : ℕ) → length xs ≡ n → take n (xs ++ drop (length xs) old) ≡ xs
refilled xs old n long = take_at xs (drop (length xs) old) n long
