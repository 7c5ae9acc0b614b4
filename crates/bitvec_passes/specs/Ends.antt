-- The two ends of a list, and blocks of bits at them.
use Rattle.std.specs.Prelude.{◌≡◌, ℕ, ◌+◌, ◌-◌, ◌*◌, ◌%◌, ◌<◌, ◌≤◌, List, length, reverse, slice_range}
use Rattle.bitvec_base.specs.declared.window.Window.{Window}
use Rattle.bitvec_base.specs.Memory.{HasWindow, list_in}
use Rattle.bitvec_base.specs.Window.{max_bits, write_at}

-- the k values of a list from `low` on and those before `high` exchanged, each in the opposite order
unfoldable pub ends_exchanged : {X : Type 0} → ℕ → ℕ → ℕ → List X → List X
ends_exchanged low high k list = write_at (write_at list low (reverse (slice_range list (high - k) high))) (high - k) (reverse (slice_range list low (low + k)))

-- a list of n values has k values from `low` on, not none, and as many that end `low` values before its end
pub record HasEnds (n low k : ℕ) : Type 0 where
  pub some : 0 < k
  pub apart : low + k + (low + k) ≤ n

-- ---- elements that are held aside

-- n elements of b bits have room for k bits and three elements more, and are at most `max_bits` bits
pub record HoldsBeside (b k n : ℕ) : Type 0 where
  pub fits : b * n ≤ max_bits
  pub room : k + 3 * b ≤ b * n

-- three elements fewer than n have whole words, of each width, and not none
pub record IsBlock (n : ℕ) : Type 0 where
  pub some : 3 < n
  pub words : (n - 3) % 8 ≡ 0
  pub few : n ≤ 515

-- a window lies in a memory with an element before it and one behind it, and isn't empty
pub record IsAmid (b : ℕ) (xs : List ℕ) (place : Window) : Type 0 where
  pub window : HasWindow b xs place
  pub some : 0 < place.len
  pub before : b ≤ place.start
  pub behind : place.start + place.len + b ≤ b * length xs

-- a window amid a memory holds the bits of another memory's window in the opposite order
pub record Mirrors (b : ℕ) (at : ℕ → ℕ → ℕ) (xs : List ℕ) (window : Window) (ys : List ℕ) (mirrored : Window) : Type 0 where
  pub place : IsAmid b ys mirrored
  pub len : mirrored.len ≡ window.len
  pub list : list_in b at ys mirrored ≡ reverse (list_in b at xs window)
