-- Two windows of one length, each in a memory of its own.
use Rattle.std.specs.Prelude.{◌≡◌, ℕ, List}
use Rattle.bitvec_base.specs.declared.window.Window.{Window}
use Rattle.bitvec_base.specs.Memory.{HasWindow}

-- Each of the two windows lies in its own memory, and they have the same length.
pub record HasSpan (b : ℕ) (xs ys : List ℕ) (left right : Window) : Type 0 where
  pub window : HasWindow b xs left
  pub beside : HasWindow b ys right
  pub lengths : left.len ≡ right.len
