-- The places of a bit that a walk has still to come to.
use Rattle.std.specs.Prelude.{◌≡◌, ℕ, ◌-◌, ◌≤◌, Bool, false, List, filter, slice_index_or}
use Rattle.std.specs.Bool.{beq}
use Rattle.std.specs.List.{range_with_len}
use Rattle.bitvec_places.specs.declared.rest.Rest.{Rest}

-- the places from `from` up to, without, `to` whose bit is `wanted`, in their order
unfoldable pub places_in : Bool → List Bool → ℕ → ℕ → List ℕ
places_in wanted list from to = filter (λ i. beq (slice_index_or list i false) wanted) (range_with_len from (to - from))

-- The places in the rest whose bit is the wanted one, in their order.
abbrev pub places_left : Bool → List Bool → Rest → List ℕ
places_left wanted list rest = places_in wanted list rest.front rest.back

-- The rest is a range of a list of `n` bits.
pub record IsRestOf (rest : Rest) (n : ℕ) : Type 0 where
  pub order : rest.front ≤ rest.back
  pub bound : rest.back ≤ n

-- What is left begins where the rest did, ends no later, and is a range of a list of `n` bits.
pub record ShortensBack (rest left : Rest) (n : ℕ) : Type 0 where
  pub inside : IsRestOf left n
  pub front : left.front ≡ rest.front
  pub back : left.back ≤ rest.back
