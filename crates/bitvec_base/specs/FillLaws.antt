-- A list that is flipped twice.
use Rattle.std.specs.Prelude.{◌≡◌, Bool, not, List, [], ◌∷◌, map, refl}
use Rattle.std.proofs.Common.{◌∙◌, ap}
use Rattle.std.proofs.Math.Bool.{not-not}

-- Flipping each bit of a list twice gives the list again.
pub flip-undoes : (list : List Bool) → map not (map not list) ≡ list
flip-undoes [] = refl
flip-undoes (bit ∷ list) = ap (λ (b : Bool). b ∷ map not (map not list)) (not-not bit) ∙ ap (λ (l : List Bool). bit ∷ l) (flip-undoes list)
