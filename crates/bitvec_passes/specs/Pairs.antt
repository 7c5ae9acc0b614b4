-- Two windows of one length, each in a memory of elements of its own width.
use Rattle.std.specs.Prelude.{◌≡◌, ℕ, List}
use Rattle.bitvec_base.specs.declared.window.Window.{Window}
use Rattle.bitvec_base.specs.Memory.{HasWindow}

-- each lies in its memory, of b-bit and of d-bit elements, and they are as long
pub record HasPair (b : ℕ) (xs : List ℕ) (left : Window) (d : ℕ) (ys : List ℕ) (right : Window) : Type 0 where
  pub window : HasWindow b xs left
  pub beside : HasWindow d ys right
  pub lengths : left.len ≡ right.len
