-- Turns, one after the other.
use Rattle.std.specs.Prelude.{◌≡◌, ◌-◌, Option, Some, None, List, [], ◌∷◌, ◌++◌, length, take, refl, MatchOption}
use Rattle.std.specs.List.{last_or}
use Rattle.std.proofs.Common.{arith}
use Rattle.std.proofs.Math.Seq.{take-append_seam}
use Rattle.std.proofs.lemmas.List.{length-append}
use Rattle.bitvec_places.specs.declared.turns.End.TheVariants.{Back}
use Rattle.bitvec_places.specs.Turns.{TurnGives}

module _ {X : Type 0} where
  last-is : (o : Option X) (values : List X) (x : X) → last_or o (values ++ x ∷ []) ≡ Some x
  last-is o [] x = refl
  last-is o (y ∷ values) x = last-is (Some y) values x

  all-but-last : (values : List X) (x : X) → take (length (values ++ x ∷ []) - 1) (values ++ x ∷ []) ≡ values
  all-but-last values x =
      let long = length-append values (x ∷ []) in
      let count : length (values ++ x ∷ []) - 1 ≡ length values = omega arith in
      rw count (take-append_seam values (x ∷ []))

  pub turn-back : (values left : List X) (given : Option X) → MatchOption given ((values ≡ []) × (left ≡ [])) (λ x. values ≡ left ++ x ∷ []) → TurnGives values Back given left
  turn-back values left None none turns = rw (none.0, none.1) refl
  turn-back values left (Some x) last turns = rw (last, last-is None left x, all-but-last left x) refl
