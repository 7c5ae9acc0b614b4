-- What an edit leaves of the elements of a sequence, which may be more or fewer afterwards.
use Rattle.std.specs.Prelude.{◌≡◌, ℕ, ◌-◌, ◌*◌, Bool, false, List, drop, length, map, replicate, take}
use Rattle.std.specs.Int.{div_ceil}
use Rattle.bitvec_base.specs.Memory.{memory_bits}

-- the elements' first bits are `front`, there are just the elements that these touch, and if all bits from `end` on were 0, so are all behind `front`
pub record LeavesFront {T : Type 0} (b : ℕ) (at : ℕ → ℕ → ℕ) (value : T → ℕ) (old new : List T) (end : ℕ) (front : List Bool) : Type 0 where
  pub bits : take (length front) (memory_bits b at (map value new)) ≡ front
  pub count : length new ≡ div_ceil (length front) b
  pub zeros : drop end (memory_bits b at (map value old)) ≡ replicate (b * length old - end) false
      → drop (length front) (memory_bits b at (map value new)) ≡ replicate (b * length new - length front) false
