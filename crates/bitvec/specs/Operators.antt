-- What `&=`, `|=` and `^=` and their like make of two lists of bits, in short.
use Rattle.std.specs.Prelude.{ℕ, Bool, List}
use Rattle.bitvec_within.specs.Combined.{combined_within}
use Rattle.bitvec_base.specs.Lists.{combined}
use Rattle.bitvec_words.specs.Operator.{operator}
use Rattle.bitvec_words.specs.declared.operator.BitOp.TheVariants.{And, AndNot, Or, Xor}

-- `and_of bits other` is each bit of `bits` and the other list's at its index, as `&=` and `and_bits` leave it; the other's is 0 past its
-- end.
abbrev pub and_of : List Bool → List Bool → List Bool
and_of bits other = combined (operator And) bits other

-- `or_of bits other` is each bit of `bits` or the other list's at its index, as `|=` and `or_bits` leave it.
abbrev pub or_of : List Bool → List Bool → List Bool
or_of bits other = combined (operator Or) bits other

-- `xor_of bits other` is each bit of `bits` exclusive or the other list's at its index, as `^=` and `xor_bits` leave it.
abbrev pub xor_of : List Bool → List Bool → List Bool
xor_of bits other = combined (operator Xor) bits other

-- `and_not_of bits other` is each bit of `bits` where the other list's at its index is 0, as `and_not_bits` leaves it.
abbrev pub and_not_of : List Bool → List Bool → List Bool
and_not_of bits other = combined (operator AndNot) bits other

-- `and_within from to dest bits` is `bits` after the call `and_within`: each of the `to - from` bits from `dest` on is itself and its
-- source in `from..to`.
abbrev pub and_within : ℕ → ℕ → ℕ → List Bool → List Bool
and_within from to dest bits = combined_within (operator And) from to dest bits

-- `or_within from to dest bits` is `bits` after the call `or_within`: each of the `to - from` bits from `dest` on is itself or its source
-- in `from..to`.
abbrev pub or_within : ℕ → ℕ → ℕ → List Bool → List Bool
or_within from to dest bits = combined_within (operator Or) from to dest bits

-- `xor_within from to dest bits` is `bits` after the call `xor_within`: each of the `to - from` bits from `dest` on is itself exclusive or
-- its source.
abbrev pub xor_within : ℕ → ℕ → ℕ → List Bool → List Bool
xor_within from to dest bits = combined_within (operator Xor) from to dest bits

-- `and_not_within from to dest bits` is `bits` after the call `and_not_within`: each of the `to - from` bits from `dest` on is 0 where its
-- source is 1.
abbrev pub and_not_within : ℕ → ℕ → ℕ → List Bool → List Bool
and_not_within from to dest bits = combined_within (operator AndNot) from to dest bits
