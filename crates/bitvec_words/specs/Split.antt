-- A window in two, split where an element of b bits begins.
use Rattle.std.specs.Prelude.{◌≡◌, ℕ, ◌+◌, ◌%◌, ◌<◌, ◌≤◌}
use Rattle.bitvec_base.specs.declared.part.Part.{Part}
use Rattle.bitvec_base.specs.declared.window.Window.{Window}

-- the front, and what is behind it, which begins there unless it is empty
pub record Split (b : ℕ) (front rest window : Window) : Type 0 where
  pub start : front.start ≡ window.start
  pub next : rest.start ≡ front.start + front.len
  pub sum : window.len ≡ front.len + rest.len
  pub edge : 0 < rest.len → rest.start % b ≡ 0

-- a part that isn't empty
pub record IsPart (b : ℕ) (part : Part) : Type 0 where
  pub some : part.from < part.to
  pub bound : part.to ≤ b
