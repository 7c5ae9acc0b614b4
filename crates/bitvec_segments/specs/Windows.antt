-- Windows whose bits are a number.
use Rattle.std.specs.Prelude.{ℕ, ◌+◌, ◌%◌, ◌<◌, ◌≤◌, Bool, List}
use Rattle.bitvec_base.specs.declared.window.Window.{Window}
use Rattle.bitvec_base.specs.Memory.{Edits, HasWindow, list_in}
use Rattle.bitvec_segments.specs.Segments.{loaded, stored}

-- The window lies in the memory, and has at most the 128 bits of the widest number.
pub record HasNumber (b : ℕ) (xs : List ℕ) (field : Window) : Type 0 where
  pub window : HasWindow b xs field
  pub bound : field.len ≤ 128

-- The window isn't empty and ends at most 64 bits behind its first element's start, and elements have at most 64 bits.
pub record FitsWord (b : ℕ) (field : Window) : Type 0 where
  pub some : 0 < field.len
  pub narrow : b ≤ 64
  pub fits : field.start % b + field.len ≤ 64

-- The number that a load of the memory's bits in the window gives.
abbrev pub loaded_in : Bool → Bool → ℕ → (ℕ → ℕ → ℕ) → List ℕ → Window → ℕ
loaded_in big high b at xs window = loaded big high b window.start (list_in b at xs window)

-- The new memory is the old one with what a store of the number leaves in the window.
abbrev pub StoresIn : Bool → Bool → ℕ → (ℕ → ℕ → ℕ) → List ℕ → List ℕ → Window → ℕ → Type 0
StoresIn big high b at old new window number = Edits b at old new window (stored big high b window.start number)
