-- The order of lists of bits, and that it agrees with their equality.
use Rattle.std.specs.Prelude.{◌≡◌, Bool, true, false, List, refl}
use Rattle.std.specs.Bool.{beq}
use Rattle.std.specs.Cmp.{IsTotalOrder, bool_cmp_total}
use Rattle.std.specs.Cmp.Lexicographic.{lists_ties, lists_total, slice_cmp}
use Rattle.std.specs.Ordering.{bool_cmp, eq_by_cmp, ordering_reverse}
use Rattle.std.proofs.Common.{Less}
use Rattle.bitvec_base.specs.Lists.{same_bits}

bit_ties : (x y : Bool) → beq x y ≡ eq_by_cmp bool_cmp x y
bit_ties false false = refl
bit_ties false true = refl
bit_ties true false = refl
bit_ties true true = refl

-- Two lists have the same bits exactly where their lexicographic comparison says equal.
pub same_bits-ties : (xs ys : List Bool) → same_bits xs ys ≡ eq_by_cmp (slice_cmp bool_cmp) xs ys
same_bits-ties = lists_ties bool_cmp bit_ties

bits_total : IsTotalOrder (slice_cmp bool_cmp)
bits_total = lists_total bool_cmp_total

-- Comparing two lists in the other order gives the reverse answer.
pub cmp-back : (xs ys : List Bool) → slice_cmp bool_cmp xs ys ≡ ordering_reverse (slice_cmp bool_cmp ys xs)
cmp-back = bits_total.antisymm

-- A list that is less than a second, which is less than a third, is less than the third.
pub cmp-on : (xs ys zs : List Bool) → slice_cmp bool_cmp xs ys ≡ Less → slice_cmp bool_cmp ys zs ≡ Less → slice_cmp bool_cmp xs zs ≡ Less
cmp-on = bits_total.trans

-- These laws tell that the comparison of bit lists agrees with their equality, reverses, and is transitive.
pub ruleset ordered = (same_bits-ties, cmp-back, cmp-on)
