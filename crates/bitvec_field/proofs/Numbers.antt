-- The number of a group of bits, a bit at a time.
use Rattle.std.specs.Prelude.{◌≡◌, ℕ, ◌+◌, ◌*◌, ◌^◌, ◌<◌, ◌≤◌, Bool, true, false, List, [], ◌∷◌, ◌++◌, length, slice_index_or, take}
use Rattle.std.specs.Int.{from_bool}
use Rattle.std.proofs.Common.{arith, length-append}
use Rattle.std.proofs.Math.Nat.{pow-le-pow_right}
use Rattle.std.proofs.lemmas.List.{length-take-le, take_more}
use Rattle.std.proofs.lemmas.Nat.{pow-add}
use Rattle.bitvec_segments.specs.NumberLaws.{segment_number-below}
use Rattle.bitvec_segments.specs.Segments.{segment_number}

number-push : (list : List Bool) (bit : Bool) → segment_number true (list ++ bit ∷ []) ≡ 2 * segment_number true list + from_bool bit
unfolding segment_number
number-push [] true = omega arith
number-push [] false = omega arith
number-push (true ∷ rest) bit = let others = number-push rest bit in let twice = pow-add 2 (length rest) 1 in rw (length-append rest (bit ∷ [])) (omega arith)
number-push (false ∷ rest) bit = let others = number-push rest bit in omega arith

-- one bit more
pub number-more : (bits : List Bool) (i : ℕ) → i < length bits
    → segment_number true (take (i + 1) bits) ≡ 2 * segment_number true (take i bits) + from_bool (slice_index_or bits i false)
number-more bits i inside = rw (take_more bits i false inside) (number-push (take i bits) (slice_index_or bits i false))

-- of fewer than four bits it is below 8
pub number-small : (bits : List Bool) (i : ℕ) → i < length bits → length bits ≤ 4 → segment_number true (take i bits) < 8
number-small bits i inside most =
    let long : length (take i bits) ≡ i = length-take-le i bits (omega arith) in
    let below = rw long at (segment_number-below true (take i bits)) in
    let power : 2 ^ i ≤ 2 ^ 3 = pow-le-pow_right {n = 2} (omega arith) {i = i} {j = 3} (omega arith) in
    omega arith

pub from_bool-small : (bit : Bool) → from_bool bit ≤ 1
from_bool-small true = omega arith
from_bool-small false = omega arith
