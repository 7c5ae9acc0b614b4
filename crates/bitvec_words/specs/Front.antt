-- The first bits of a window, as the first bits of a word.
use Rattle.std.specs.Prelude.{◌≡◌, ℕ, ◌+◌, ◌%◌, ◌<◌, ◌≤◌, List, min}
use Rattle.bitvec_base.specs.declared.window.Window.{Window}
use Rattle.bitvec_base.specs.Memory.{element_bits, list_in}
use Rattle.bitvec_base.specs.Window.{window_range}
use Rattle.bitvec_words.specs.ShortWindow.{padded}

-- The word holds the window's first `count` bits, then zeros, and where elements fit a word and bits are left, an element's edge follows.
pub record IsFront (b : ℕ) (at : ℕ → ℕ → ℕ) (xs : List ℕ) (window : Window) (word count : ℕ) : Type 0 where
  pub some : 0 < count
  pub most : count ≤ 64
  pub within : count ≤ window.len
  pub edge : b ≤ 64 → count < window.len → (window.start + count) % b ≡ 0
  pub bits : element_bits 64 at word ≡ padded 64 (list_in b at xs (window_range window 0 count))

-- The window of the first bits of a window, at most 64.
abbrev pub front_window : Window → Window
front_window window = record { start = window.start; len = min window.len 64 }
