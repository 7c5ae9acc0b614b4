-- What is made of two windows' bits, index by index.
use Rattle.std.specs.Prelude.{◌≡◌, ℕ, ◌==◌, ◌&&◌, Bool, List, length}
use Rattle.bitvec_base.specs.declared.window.Window.{Window}
use Rattle.bitvec_base.specs.Lists.{combined, same_bits}
use Rattle.bitvec_base.specs.Memory.{Writes, list_in}
use Rattle.bitvec_cells.specs.Access.{Costs, OnlyReadsAtMost}
use Rattle.bitvec_cells.specs.declared.cells.CellsRead.{Ghosts as Access}
use Rattle.bitvec_cells.specs.Cost.{touched_count}
use Rattle.bitvec_words.specs.declared.operator.BitOp.{BitOp}
use Rattle.bitvec_words.specs.Operator.{operator}

-- each bit of the first window is what the operator makes of it and the one at its index in the second, a 0 past that one's end; every other bit stays
abbrev pub Combines : (b : ℕ) (at : ℕ → ℕ → ℕ) → BitOp → (old new ys : List ℕ) (left right : Window) → Type 0
Combines b at op old new ys left right = Writes b at old new left (combined (operator op) (list_in b at old left) (list_in b at ys right))

-- ---- what acts did with a window, given as many bits

module _ {E C : Type 0} (access : Access C E) where
  -- each bit is what the operator makes of it and the one given; each element that the window touches was loaded and stored once
  pub record CombinesBits (b : ℕ) (at : ℕ → ℕ → ℕ) (old new : C) (window : Window) (list : List Bool) (op kept : BitOp) : Type 0 where
    pub writes : Writes b at (access.numbers old) (access.numbers new) window (combined (operator op) (list_in b at (access.numbers old) window) list)
    pub long : length list ≡ window.len
    pub same : kept ≡ op
    pub cost : Costs access old new (touched_count b window.start window.len) (touched_count b window.start window.len)

  -- the number found is 0 afterwards exactly where it was and the bits are those given; each element that the window touches was loaded once at most
  pub record FindsDifference (b : ℕ) (at : ℕ → ℕ → ℕ) (old new : C) (window : Window) (list : List Bool) (before found : ℕ) : Type 0 where
    pub value : (found == 0) ≡ ((before == 0) && same_bits (list_in b at (access.numbers old) window) list)
    pub long : length list ≡ window.len
    pub reads : OnlyReadsAtMost access old new (touched_count b window.start window.len)
