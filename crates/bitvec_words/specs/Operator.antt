-- What an operator makes of two bits.
use Rattle.std.specs.Prelude.{Bool, not, ◌&&◌, ◌||◌}
use Rattle.bitvec_base.specs.Lists.{differs}
use Rattle.bitvec_words.specs.declared.operator.BitOp.{BitOp}
use Rattle.bitvec_words.specs.declared.operator.BitOp.TheVariants.{And, AndNot, Or, Xor}

-- The bit that an operator makes of two bits, as `&`, `|` and `^` of `bool` do.
abbrev pub operator : BitOp → Bool → Bool → Bool
operator And bit other = bit && other
operator Or bit other = bit || other
operator Xor bit other = differs bit other
operator AndNot bit other = bit && not other
