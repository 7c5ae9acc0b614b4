-- What a walk from the front keeps of the elements that it loaded last.
use Rattle.std.specs.Prelude.{◌≡◌, ℕ, ◌+◌, ◌-◌, ◌<◌, ◌≤◌, Bool, false, List, slice_index_or}
use Rattle.std.specs.Int.{bit_at}
use Rattle.bitvec_places.specs.declared.rest.Rest.{Rest}
use Rattle.bitvec_places.specs.declared.kept.Kept.{Kept}

-- The list is that of a window. Of the indices of the rest at which it has the wanted bit, those below the edge are
-- exactly base + i for the ones i of the kept word.
pub record Keeps (want : Bool) (list : List Bool) (rest : Rest) (kept : Kept) : Type 0 where
  pub order : rest.front ≤ kept.edge
  pub width : kept.edge ≤ kept.base + 64
  pub has : (k : ℕ) → rest.front ≤ k → k < rest.back → k < kept.edge → slice_index_or list k false ≡ want → (kept.base ≤ k) × (bit_at kept.ones (k - kept.base) ≡ 1)
  pub inside : (i : ℕ) → i < 64 → bit_at kept.ones i ≡ 1 → (rest.front ≤ kept.base + i) × (kept.base + i < rest.back) × (kept.base + i < kept.edge)
  pub bit : (i : ℕ) → i < 64 → bit_at kept.ones i ≡ 1 → slice_index_or list (kept.base + i) false ≡ want
