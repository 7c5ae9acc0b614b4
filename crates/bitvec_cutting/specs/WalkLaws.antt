-- The first and the last of the pieces that are still to come, and how many they are.
use Rattle.std.specs.Prelude.{◌≡◌, ℕ, ◌+◌, ◌-◌, ◌<◌, ◌≤◌, [], ◌∷◌, ◌++◌, length, map, slice_index_or}
use Rattle.std.proofs.Common.{◌∙◌, ap}
use Rattle.std.proofs.iter.Rest.{range_with_len_first, range_with_len_last, range_with_len_none}
use Rattle.std.proofs.lemmas.List.{map-append}
use Rattle.std.proofs.lemmas.List.FromFn.{get_or-map-range_with_len, length-map-range_with_len}
use Rattle.bitvec_cutting.specs.Walks.{walk}

module _ {X : Type 0} (piece : ℕ → X) (front back : ℕ) where
  -- A walk whose front isn't before its back has no pieces.
  pub walk_none : back ≤ front → walk piece front back ≡ []
  unfolding walk
  walk_none none = ap (map piece) (range_with_len_none front back none)

  -- The first piece of a walk is the one at its front, and the others are those of the walk from the next on.
  pub walk_first : front < back → walk piece front back ≡ piece front ∷ walk piece (front + 1) back
  unfolding walk
  walk_first some = ap (map piece) (range_with_len_first front back some)

  -- The last piece of a walk is the one before its back, and the others are those of the walk up to it.
  pub walk_last : front < back → walk piece front back ≡ walk piece front (back - 1) ++ piece (back - 1) ∷ []
  unfolding walk
  walk_last some = ap (map piece) (range_with_len_last front back some) ∙ map-append piece _ _

  -- A walk has as many pieces as its back is behind its front.
  pub walk_length : length (walk piece front back) ≡ back - front
  unfolding walk
  walk_length = length-map-range_with_len piece front (back - front)

  -- The piece `k` places behind a walk's first is the one whose number is `k` higher.
  pub walk_at : (k number : ℕ) (d : X) → k < back - front → front + k ≡ number → slice_index_or (walk piece front back) k d ≡ piece number
  unfolding walk
  walk_at k number d = get_or-map-range_with_len piece front (back - front) k number d

-- These laws tell what a walk has to give: its first piece, its last one, and their number.
pub ruleset stepping = (walk_none, walk_first, walk_last, walk_length)
