-- What word steps may take, where a step is about 64 bits.
use Rattle.std.specs.Prelude.{ℕ, ◌+◌, ◌*◌}
use Rattle.std.specs.Int.{div_ceil}
use Rattle.bitvec_cells.specs.declared.cells.CellsRead.{Ghosts as Access}
use Rattle.bitvec_cells.specs.Access.{CostsAtMost, OnlyReadsAtMost}

-- The greatest number of elements of `b` bits that 64 consecutive bits can touch.
abbrev pub word_span : ℕ → ℕ
word_span b = div_ceil 64 b + 1

-- what n steps may take of a memory of elements of b bits
module _ {E C : Type 0} (access : Access C E) (old new : C) (b n : ℕ) where
  -- Nothing was stored, and `n` word steps loaded at most as many elements as 64 bits can touch in each.
  abbrev pub ReadsInSteps : Type 0
  ReadsInSteps = OnlyReadsAtMost access old new (n * word_span b)

  -- Each of `n` word steps made at most two loads, and stored at most as many elements as 64 bits can touch.
  abbrev pub WritesInSteps : Type 0
  WritesInSteps = CostsAtMost access old new (n * 2) (n * word_span b)

  -- Each of `n` word steps loaded at most as many elements as 64 bits can touch and two more, and stored at most as many.
  abbrev pub EditsInSteps : Type 0
  EditsInSteps = CostsAtMost access old new (n * word_span b + n * 2) (n * word_span b)
