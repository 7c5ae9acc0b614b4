-- Where some bits may stand among others, by words.
use Rattle.std.specs.Prelude.{◌≡◌, ℕ, ◌+◌, ◌<◌, true, false, ◌++◌, slice_index_or}
use Rattle.bitvec_base.specs.Memory.{element_bits}

-- each of the first 64 places of two words side by side from which they have the first `count` bits of the needle is a 1 of `starts`
abbrev pub HasStarts : (ℕ → ℕ → ℕ) → ℕ → ℕ → ℕ → ℕ → ℕ → Type 0
HasStarts at low high needle count starts = (i : ℕ) → i < 64
    → ((k : ℕ) → k < count → slice_index_or (element_bits 64 at low ++ element_bits 64 at high) (i + k) false ≡ slice_index_or (element_bits 64 at needle) k false)
    → slice_index_or (element_bits 64 at starts) i false ≡ true
