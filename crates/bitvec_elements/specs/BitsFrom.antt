-- A word of 64 bits of a list.
use Rattle.std.specs.Prelude.{◌≡◌, ℕ, ◌+◌, ◌<◌, List, Bool, false, slice_index_or}
use Rattle.bitvec_base.specs.Memory.{element_bits}

-- the word has 64 bits of the list, from a place on, with zeros behind its end
abbrev pub HasBitsFrom : (ℕ → ℕ → ℕ) → ℕ → List Bool → ℕ → Type 0
HasBitsFrom at word list from = (k : ℕ) → k < 64 → slice_index_or (element_bits 64 at word) k false ≡ slice_index_or list (from + k) false
