-- What a call did by a row.
use Rattle.std.specs.Prelude.{◌≡◌, ℕ, ◌+◌, Bool}
use Rattle.bitvec_base.specs.declared.window.Window.{Window}
use Rattle.bitvec_base.specs.Memory.{Writes, list_in}
use Rattle.bitvec_cells.specs.declared.cells.CellsRead.{Ghosts as Access}
use Rattle.bitvec_cells.specs.Access.{CostsAtMost, OnlyReadsAtMost}
use Rattle.bitvec_commands.specs.declared.command.Reply.{Reply}
use Rattle.bitvec_commands.specs.Costs.{place_of}
use Rattle.bitvec_commands.specs.Rows.{CommandRow}

-- of the list that a window holds it answered and left what the row says, at no more than its cost
module _ {E C : Type 0} (access : Access C E) where
  -- The call replied, wrote and cost what the row says.
  pub record Follows (b : ℕ) (at : ℕ → ℕ → ℕ) (words : Bool) (row : CommandRow) (window : Window) (old new : C) (result : Reply) : Type 0 where
    pub reply : result ≡ row.reply (list_in b at (access.numbers old) window)
    pub writes : Writes b at (access.numbers old) (access.numbers new) window (row.list (list_in b at (access.numbers old) window))
    pub cost : CostsAtMost access old new (row.cost (place_of b words window)).loads (row.cost (place_of b words window)).stores

  -- a question, whose row leaves the list: it answered what the row says, and only read, at no more than its cost
  pub record Answers (b : ℕ) (at : ℕ → ℕ → ℕ) (words : Bool) (row : CommandRow) (window : Window) (old new : C) (result : Reply) : Type 0 where
    pub reply : result ≡ row.reply (list_in b at (access.numbers old) window)
    pub list : row.list (list_in b at (access.numbers old) window) ≡ list_in b at (access.numbers old) window
    pub reads : OnlyReadsAtMost access old new (row.cost (place_of b words window)).loads

-- and it only read the right memory
module _ {E C F D : Type 0} (access : Access C E) (beside : Access D F) where
  -- The call followed the row, and only read the right memory, at no more than the row's cost.
  pub record FollowsBoth (b : ℕ) (at : ℕ → ℕ → ℕ) (words : Bool) (row : CommandRow) (window : Window) (old new : C) (right_old right_new : D) (result : Reply) : Type 0 where
    pub left : Follows access b at words row window old new result
    pub right : OnlyReadsAtMost beside right_old right_new (row.cost (place_of b words window)).right_loads

-- a window of the list that `source` holds, as one of the memory
abbrev pub window_inside : Window → Window → Window
window_inside source window = record { start = source.start + window.start; len = window.len }
