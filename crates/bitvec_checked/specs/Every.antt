-- Every so many places of a list: 0, step, 2 * step and so on.
use Rattle.std.specs.Prelude.{ℕ, ◌*◌, ◌/◌, ◌%◌, ◌==◌, Bool, false, if◌then◌else◌, List, length, map, slice_index_or}
use Rattle.std.specs.Int.{div_ceil}
use Rattle.std.specs.List.{range_with_len}

-- the bits there
unfoldable pub every : ℕ → List Bool → List Bool
every step list = map (λ k. slice_index_or list (k * step) false) (range_with_len 0 (div_ceil (length list) step))

-- the list with f k at place k * step, for each k, and its own bits elsewhere
unfoldable pub with_every : ℕ → (ℕ → Bool) → List Bool → List Bool
with_every step f list = map (λ i. if i % step == 0 then f (i / step) else slice_index_or list i false) (range_with_len 0 (length list))
