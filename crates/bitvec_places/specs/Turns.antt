-- What the turns of a walk give.
use Rattle.std.specs.Prelude.{◌≡◌, ℕ, ◌-◌, Option, None, List, [], ◌∷◌, count_by, drop, length, slice_get, take}
use Rattle.std.specs.List.{last_or}
use Rattle.std.specs.Option.{is_some}
use Rattle.bitvec_places.specs.declared.turns.End.{End}
use Rattle.bitvec_places.specs.declared.turns.End.TheVariants.{Front, Back}

-- each turn gives the first or the last of the values that are left, if any is, and leaves the others
abbrev pub turns_give : {X : Type 0} → List X → List End → List (Option X)
turns_give values [] = []
turns_give values (Front ∷ turns) = slice_get values 0 ∷ turns_give (drop 1 values) turns
turns_give values (Back ∷ turns) = last_or None values ∷ turns_give (take (length values - 1) values) turns

-- A turn at this end gives `given`, and the turns after it go on with the values `left`.
abbrev pub TurnGives : {X : Type 0} → List X → End → Option X → List X → Type 0
TurnGives values end given left = (turns : List End) → turns_give values (end ∷ turns) ≡ given ∷ turns_give left turns

-- How many turns gave a value.
abbrev pub count_given : {X : Type 0} → List (Option X) → ℕ
count_given given = count_by is_some given
