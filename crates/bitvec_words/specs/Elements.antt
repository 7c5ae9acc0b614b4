-- Windows of whole elements of b bits.
use Rattle.std.specs.Prelude.{◌≡◌, ℕ, ◌+◌, ◌*◌, ◌/◌, List}
use Rattle.bitvec_base.specs.declared.window.Window.{Window}
use Rattle.bitvec_base.specs.Memory.{element_bits, memory_bits}

-- `count` elements from the element `first` on
abbrev pub elements_window : ℕ → ℕ → ℕ → Window
elements_window b first count = record { start = first * b; len = count * b }

-- as many bits from the index `skip` of that element on
abbrev pub elements_window_from : ℕ → ℕ → ℕ → ℕ → Window
elements_window_from b first skip count = record { start = first * b + skip; len = count * b }

-- the whole elements from a window's first bit on
abbrev pub whole_of : ℕ → Window → Window
whole_of b window = elements_window b (window.start / b) (window.len / b)

-- ---- elements in a word of 64 bits

-- it has these elements, from its least significant bit on
abbrev pub HasElements : ℕ → ℕ → List ℕ → Type 0
HasElements b word xs = element_bits 64 (λ b i. i) word ≡ memory_bits b (λ b i. i) xs

-- the other has the same ones under an order
abbrev pub SameElements : ℕ → (ℕ → ℕ → ℕ) → ℕ → ℕ → Type 0
SameElements b at word other = (xs : List ℕ) → HasElements b word xs → element_bits 64 at other ≡ memory_bits b at xs
