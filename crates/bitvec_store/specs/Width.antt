-- Widths of elements.
use Rattle.std.specs.Prelude.{◌≡◌, ℕ, ◌^◌, ◌<◌, ◌⊎◌, List, length, slice_index}

-- `b` is the width of an element in bits: 8, 16, 32, 64 or 128.
abbrev pub IsWidth : ℕ → Type 0
IsWidth b = (b ≡ 8) ⊎ ((b ≡ 16) ⊎ ((b ≡ 32) ⊎ ((b ≡ 64) ⊎ (b ≡ 128))))

-- Each number of `xs` is below `2 ^ b`, so that an element of `b` bits holds it.
abbrev pub FitWidth : ℕ → List ℕ → Type 0
FitWidth b xs = (e : ℕ) → e < length xs → slice_index xs e < 2 ^ b
