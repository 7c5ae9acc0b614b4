-- What operators make of lists of bits at values: all four pairs of bits, then two bits combined with the two before them.
use Rattle.std.specs.Prelude.{◌≡◌, true, false, [], ◌∷◌, refl}
use Rattle.bitvec.specs.Combined.{combined_within}
use Rattle.bitvec.specs.Lists.{combined}
use Rattle.bitvec.specs.Operators.{and_not_of, and_not_within, and_of, and_within, or_of, or_within, xor_of, xor_within}
use Rattle.bitvec.specs.Window.{write_at}

pub and_of-1 : and_of (true ∷ true ∷ false ∷ false ∷ []) (true ∷ false ∷ true ∷ false ∷ []) ≡ true ∷ false ∷ false ∷ false ∷ []
unfolding combined
and_of-1 = refl

pub or_of-1 : or_of (true ∷ true ∷ false ∷ false ∷ []) (true ∷ false ∷ true ∷ false ∷ []) ≡ true ∷ true ∷ true ∷ false ∷ []
unfolding combined
or_of-1 = refl

pub xor_of-1 : xor_of (true ∷ true ∷ false ∷ false ∷ []) (true ∷ false ∷ true ∷ false ∷ []) ≡ false ∷ true ∷ true ∷ false ∷ []
unfolding combined
xor_of-1 = refl

pub and_not_of-1 : and_not_of (true ∷ true ∷ false ∷ false ∷ []) (true ∷ false ∷ true ∷ false ∷ []) ≡ false ∷ true ∷ false ∷ false ∷ []
unfolding combined
and_not_of-1 = refl

pub and_within-1 : and_within 0 2 2 (true ∷ false ∷ true ∷ true ∷ []) ≡ true ∷ false ∷ true ∷ false ∷ []
unfolding combined_within combined write_at
and_within-1 = refl

pub or_within-1 : or_within 0 2 2 (true ∷ false ∷ false ∷ false ∷ []) ≡ true ∷ false ∷ true ∷ false ∷ []
unfolding combined_within combined write_at
or_within-1 = refl

pub xor_within-1 : xor_within 0 2 2 (true ∷ false ∷ true ∷ true ∷ []) ≡ true ∷ false ∷ false ∷ true ∷ []
unfolding combined_within combined write_at
xor_within-1 = refl

pub and_not_within-1 : and_not_within 0 2 2 (true ∷ false ∷ true ∷ true ∷ []) ≡ true ∷ false ∷ false ∷ true ∷ []
unfolding combined_within combined write_at
and_not_within-1 = refl
