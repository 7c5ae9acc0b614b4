-- A memory is a list of numbers below 2 ^ b, its elements. Its bits are one list of truth values.
use Rattle.std.specs.Prelude.{◌≡◌, ℕ, Bool, ◌*◌, ◌/◌, ◌%◌, ◌≤◌, ◌==◌, List, length, map, slice_index}
use Rattle.std.specs.List.{range_with_len}
use Rattle.std.specs.Int.{bit_at}
use Rattle.bitvec_base.specs.declared.window.Window.{Window}
use Rattle.bitvec_base.specs.Window.{IsWithin, max_bits, window_of, write_window}

-- The bit at place `j` of a memory of elements of `b` bits: the bit numbered `at b (j % b)` of element `j / b`.
unfoldable pub place_bit : ℕ → (ℕ → ℕ → ℕ) → List ℕ → ℕ → Bool
place_bit b at xs j = bit_at (slice_index xs (j / b)) (at b (j % b)) == 1

-- The bits of a memory of elements of `b` bits, from the first place to the last.
unfoldable pub memory_bits : ℕ → (ℕ → ℕ → ℕ) → List ℕ → List Bool
memory_bits b at xs = map (place_bit b at xs) (range_with_len 0 (b * length xs))

-- The `b` bits of the element `v`, in ascending order of their indices under the order `at`.
unfoldable pub element_bits : ℕ → (ℕ → ℕ → ℕ) → ℕ → List Bool
element_bits b at v = map (λ i. bit_at v (at b i) == 1) (range_with_len 0 b)

-- ---- what a call needs of a memory, and what it does to it

-- The memory has at most `max_bits` bits.
abbrev pub FitsMaxBits : ℕ → List ℕ → Type 0
FitsMaxBits b xs = b * length xs ≤ max_bits

-- The memory has at most `max_bits` bits, and the window lies in it.
pub record HasWindow (b : ℕ) (xs : List ℕ) (window : Window) : Type 0 where
  pub fits : b * length xs ≤ max_bits
  pub within : IsWithin window (b * length xs)

-- The bits that a window of the memory holds, as a list.
abbrev pub list_in : ℕ → (ℕ → ℕ → ℕ) → List ℕ → Window → List Bool
list_in b at xs window = window_of (memory_bits b at xs) window

-- The window holds `list`, which is as long, every bit outside it is as before, and no element was added or removed.
pub record Writes (b : ℕ) (at : ℕ → ℕ → ℕ) (old new : List ℕ) (window : Window) (list : List Bool) : Type 0 where
  pub bits : memory_bits b at new ≡ write_window (memory_bits b at old) window list
  pub long : length list ≡ window.len
  pub elements : length new ≡ length old

-- The window holds what `edit` makes of the list that it held, and every bit outside it is as before.
abbrev pub Edits : ℕ → (ℕ → ℕ → ℕ) → List ℕ → List ℕ → Window → (List Bool → List Bool) → Type 0
Edits b at old new window edit = Writes b at old new window (edit (list_in b at old window))
