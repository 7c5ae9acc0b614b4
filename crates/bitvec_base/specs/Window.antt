-- Windows of a list of bits, and writes into them.
use Rattle.std.specs.Prelude.{ℕ, ◌+◌, ◌-◌, ◌/◌, ◌^◌, ◌≤◌, List, ◌++◌, length, take, drop, slice_range}
use Rattle.bitvec_base.specs.declared.window.Window.{Window}

-- The most bits that a memory may have: `bitvec`'s `BitSlice::MAX_BITS` where a `usize` has 64 bits.
abbrev pub max_bits : ℕ
max_bits = (2 ^ 64 - 1) / 8

-- The list with `new` in place of as many of its values, from place `s` on.
unfoldable pub write_at : {X : Type 0} → List X → ℕ → List X → List X
write_at list s new = take s list ++ (new ++ drop (s + length new) list)

-- The window lies in a list or a memory of `n` bits.
pub record IsWithin (window : Window) (n : ℕ) : Type 0 where
  pub start : window.start ≤ n
  pub len : window.len ≤ n - window.start

-- The window of the one bit at `place`.
abbrev pub bit_window : ℕ → Window
bit_window place = record { start = place; len = 1 }

-- The values of a list that a window covers.
unfoldable pub window_of : {X : Type 0} → List X → Window → List X
window_of bits window = slice_range bits window.start (window.start + window.len)

-- The list with `new` written into it from the window's start on.
abbrev pub write_window : {X : Type 0} → List X → Window → List X → List X
write_window bits window new = write_at bits window.start new

-- The part of a window at its own indices `from..to`.
abbrev pub window_range : Window → ℕ → ℕ → Window
window_range window from to = record { start = window.start + from; len = to - from }

-- The window without its first `n` bits.
abbrev pub window_after : ℕ → Window → Window
window_after n window = record { start = window.start + n; len = window.len - n }

-- The window without its last `n` bits.
abbrev pub window_until : ℕ → Window → Window
window_until n window = record { start = window.start; len = window.len - n }
