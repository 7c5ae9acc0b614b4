-- The segments of a list from an index on, where one ends.
use Rattle.std.specs.Prelude.{◌≡◌, ℕ, zero, suc, ◌+◌, ◌-◌, ◌<◌, ◌≤◌, ◌==◌, Bool, false, if◌then◌else◌, List, [], ◌∷◌, ◌++◌, drop, length, slice_range, refl}
use Rattle.std.specs.List.{flat_map, join_by}
use Rattle.std.proofs.Common.{◌∙◌, arith, length-drop, rules}
use Rattle.std.proofs.lemmas.List.{drop_all, drop-drop}
use Rattle.std.proofs.lemmas.Nat.{mod_below}
use Rattle.bitvec_segments.specs.Segments.{segments}
use Rattle.bitvec_segments.specs.SegmentsLaws.{first_len, segments-first}
use Rattle.bitvec_domain.specs.Listing.{comma, separator}

module _ (b s : ℕ) (list : List Bool) where
  unfoldable pub segments_from : ℕ → List (List Bool)
  segments_from from = segments b (s + from) (drop from list)

  pub segments_from-start : segments_from 0 ≡ segments b s list
  unfolding segments_from
  segments_from-start = let start : s + 0 ≡ s = omega arith in rw start refl

  pub segments_from-next : (from k : ℕ) → 0 < b → from < length list → k ≡ first_len b (s + from) (length list - from)
      → segments_from from ≡ slice_range list from (from + k) ∷ segments_from (from + k)
  unfolding segments_from
  segments_from-next from k some more is =
      let left = length-drop from list in
      let long : from + k - from ≡ k = omega arith in
      let place : s + from + k ≡ s + (from + k) = omega arith in
      segments-first b (s + from) (drop from list) k some (omega arith) (rw left is)
      ∙ rw (long, place, drop-drop) refl

  -- a segment has bits
  pub segments_from-later : (from k : ℕ) → 0 < b → from < length list → k ≡ first_len b (s + from) (length list - from) → 0 < from + k
  segments_from-later from k some more is = let below = mod_below (s + from) b some in omega arith

  pub segments_from-end : (from : ℕ) → length list ≤ from → segments_from from ≡ []
  unfolding segments_from segments
  segments_from-end from over = rw (drop_all from list over) refl

module _ (text : List Bool → List ℕ) where
  -- the text of segments behind what was written of a list, which is nothing if they begin at 0
  unfoldable pub joined_from : ℕ → List (List Bool) → List ℕ
  joined_from from rest = if from == 0 then join_by text comma rest else flat_map (λ segment. comma ++ text segment) rest

  pub joined_from-start : (all : List (List Bool)) → joined_from 0 all ≡ join_by text comma all
  unfolding joined_from
  joined_from-start all = refl

  pub joined_from-next : (from next : ℕ) (first : List Bool) (rest : List (List Bool)) → 0 < next
      → joined_from from (first ∷ rest) ≡ (separator from ++ text first) ++ joined_from next rest
  unfolding joined_from
  joined_from-next zero next first rest later =
      let other : (next == 0) ≡ false = search rules in
      rw other refl
  joined_from-next (suc from) next first rest later =
      let here : (suc from == 0) ≡ false = search rules in
      let other : (next == 0) ≡ false = search rules in
      rw (here, other) refl

  pub joined_from-end : (from : ℕ) → joined_from from [] ≡ []
  unfolding joined_from
  joined_from-end zero = refl
  joined_from-end (suc from) = let here : (suc from == 0) ≡ false = search rules in rw here refl
