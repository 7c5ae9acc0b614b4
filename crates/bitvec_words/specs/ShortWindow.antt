-- Fields of elements under an order that runs from one end to the other.
use Rattle.std.specs.Prelude.{ℕ, ◌+◌, ◌-◌, ◌<◌, ◌≤◌, Bool, false, if◌then◌else◌, List, ◌++◌, length, replicate}
use Rattle.bitvec_base.specs.declared.window.Window.{Window}
use Rattle.bitvec_base.specs.Memory.{HasWindow}

-- The window lies in the memory, and has at least one bit and at most the `b` bits of an element.
pub record HasShortWindow (b : ℕ) (xs : List ℕ) (window : Window) : Type 0 where
  pub inside : HasWindow b xs window
  pub some : 0 < window.len
  pub bound : window.len ≤ b

-- the lowest of the numbers of the bits at the indices from..from + len
abbrev pub lowest_bit : Bool → ℕ → ℕ → ℕ → ℕ
lowest_bit high b from len = if high then b - (from + len) else from

-- The list with zeros behind it, up to `b` bits in all.
unfoldable pub padded : ℕ → List Bool → List Bool
padded b list = list ++ replicate (b - length list) false
