-- Places of bits that walks give at values.
use Rattle.std.specs.Prelude.{◌≡◌, Some, None, true, false, [], ◌∷◌, refl}
use Rattle.bitvec.specs.Places.{places_in}
use Rattle.bitvec.specs.Turns.{count_given}

pub places_in-1 : places_in true (false ∷ true ∷ true ∷ false ∷ true ∷ []) 2 5 ≡ 2 ∷ 4 ∷ []
unfolding places_in
places_in-1 = refl

pub count_given-1 : count_given (Some true ∷ None ∷ Some false ∷ []) ≡ 2
count_given-1 = refl
