-- What stands at an index of a list whose two ranges were exchanged, and that the list is as long.
use Rattle.std.specs.Prelude.{◌≡◌, ℕ, ◌+◌, ◌-◌, ◌<◌, ◌≤◌, ◌⊎◌, List, length, slice_index_or}
use Rattle.std.proofs.Common.{arith, rules}
use Rattle.std.proofs.lemmas.List.{places}
use Rattle.bitvec_base.specs.Window.{write_at}
use Rattle.bitvec_within.specs.Swaps.{LieApart, swapped_within}

module _ {X : Type 0} (from to dest : ℕ) (list : List X) (order : from ≤ to) (source : to ≤ length list) (room : dest + (to - from) ≤ length list) where
  -- Exchanging two ranges leaves the list as long as before.
  pub length-swapped : length (swapped_within from to dest list) ≡ length list
  unfolding swapped_within write_at
  length-swapped = search (rules, places)

  -- A place of the first range has the value at its index in the second one.
  pub get-swapped_front : (k : ℕ) (d : X) → LieApart from to dest → from ≤ k → k < to → slice_index_or (swapped_within from to dest list) k d ≡ slice_index_or list (dest + (k - from)) d
  unfolding swapped_within write_at
  get-swapped_front k d apart low high = grind (arith, places)

  -- A place of the second range has the value at its index in the first one.
  pub get-swapped_back : (k : ℕ) (d : X) → dest ≤ k → k < dest + (to - from) → slice_index_or (swapped_within from to dest list) k d ≡ slice_index_or list (from + (k - dest)) d
  unfolding swapped_within write_at
  get-swapped_back k d low high = grind (arith, places)

  -- A place outside both ranges has its old value.
  pub get-swapped_outside : (k : ℕ) (d : X) → (k < from) ⊎ (to ≤ k) → (k < dest) ⊎ (dest + (to - from) ≤ k) → slice_index_or (swapped_within from to dest list) k d ≡ slice_index_or list k d
  unfolding swapped_within write_at
  get-swapped_outside k d front back = grind (arith, places)
