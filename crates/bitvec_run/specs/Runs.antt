-- When a run is made, and what its steps mean on plain lists of truth values.
--
-- `right` is the right list, and `list` the window's, of n bits.
use Rattle.std.specs.Prelude.{◌≡◌, ◌↔◌, ℕ, ◌-◌, ◌*◌, ◌<◌, Bool, if◌then◌else◌, List, length, Result, Err, IfErr, IfOk, IsOk, OnErr, OnOk, Vec, vec_items}
use Rattle.bitvec_base.specs.declared.window.Window.{Window}
use Rattle.bitvec_base.specs.Memory.{FitsMaxBits, HasWindow, Writes, list_in, memory_bits}
use Rattle.bitvec_cells.specs.declared.cells.CellsRead.{Ghosts as Access}
use Rattle.bitvec_cells.specs.Access.{CostsAtMost, OnlyReads, OnlyReadsAtMost}
use Rattle.bitvec_commands.specs.declared.command.Refusal.{Refusal}
use Rattle.bitvec_commands.specs.declared.command.Reply.{Reply}
use Rattle.bitvec_run.specs.declared.run_error.RunError.{RunError}
use Rattle.bitvec_run.specs.declared.run_error.RunError.TheVariants as error
use Rattle.bitvec_run.specs.declared.step.Step.{Step}
use Rattle.bitvec_commands.specs.Commands.{op_row}
use Rattle.bitvec_commands.specs.Costs.{Cost, Place, place_of}
use Rattle.bitvec_run.specs.Fold.{cost_of, list_after, replies_of}
use Rattle.bitvec_commands.specs.Rows.{CommandRow, on_range, outcome, range_lies, refused, row_list, row_reply}

-- the memory has the window, and the right memory has at most `max_bits` bits
pub record CanRun (b : ℕ) (xs : List ℕ) (window : Window) (ys : List ℕ) : Type 0 where
  pub has_window : HasWindow b xs window
  pub right_fits : FitsMaxBits b ys

-- when a run of n steps isn't made: the window is tested first
abbrev pub FailsRun : ℕ → List ℕ → Window → List ℕ → ℕ → RunError → Type 0
FailsRun b xs window ys n error.Window = ¬ HasWindow b xs window
FailsRun b xs window ys n error.Right = HasWindow b xs window × (¬ FitsMaxBits b ys)
FailsRun b xs window ys n error.Memory = CanRun b xs window ys × (0 < n)

-- what steps that are rows, on a list of n bits, may cost together
abbrev pub run_cost : {S : Type 0} → (ℕ → S → CommandRow) → ℕ → Place → List S → Cost
run_cost row_of n place steps = cost_of (λ step. (row_of n step).cost place) steps

-- what a run of such steps through a window did: what it replied, what it left, and what it took at most of the memory and of the right one
module _ {E F C D S : Type 0} (access : Access C E) (beside : Access D F) (row_of : ℕ → S → CommandRow) where
  -- The replies are those of the steps, the window holds the list after the last, and the costs add up to the bound at most.
  pub record RunsBy (b : ℕ) (at : ℕ → ℕ → ℕ) (words : Bool) (window : Window) (steps : List S) (old new : C) (right_old right_new : D) (made : List Reply) : Type 0 where
    pub replies : made ≡ replies_of (row_reply row_of) (row_list row_of) (list_in b at (access.numbers old) window) steps
    pub writes : Writes b at (access.numbers old) (access.numbers new) window (list_after (row_list row_of) (list_in b at (access.numbers old) window) steps)
    pub cost : CostsAtMost access old new (run_cost row_of window.len (place_of b words window) steps).loads (run_cost row_of window.len (place_of b words window) steps).stores
    pub right : OnlyReadsAtMost beside right_old right_new (run_cost row_of window.len (place_of b words window) steps).right_loads

-- what comes of a run of steps that are rows beside a right list, which has all bits of the right memory
module _ {E F C D S A : Type 0} (access : Access C E) (beside : Access D F) (row_of : List Bool → ℕ → S → CommandRow) where
  -- The run was made and did what its rows say, or it failed exactly as it had to, and then changed, loaded and stored nothing. `made` and
  -- `fails` exclude one another, so each error comes exactly where it should (`RunsOrFails-errors`).
  pub record RunsOrFails (b : ℕ) (at : ℕ → ℕ → ℕ) (words : Bool) (window : Window) (steps : List S) (old new : C) (right_old right_new : D) (result : Result (Vec Reply A) RunError) : Type 0 where
    pub runs : IfOk result (λ replies. RunsBy access beside (row_of (memory_bits b at (beside.numbers right_old))) b at words window steps old new right_old right_new (vec_items replies))
    pub made : OnOk result (CanRun b (access.numbers old) window (beside.numbers right_old))
    pub fails : IfErr result (FailsRun b (access.numbers old) window (beside.numbers right_old) (length steps))
    pub unchanged : OnErr result (OnlyReads access old new 0 × OnlyReads beside right_old right_new 0)

-- all bits of a memory
abbrev pub whole_window : ℕ → List ℕ → Window
whole_window b xs = record { start = 0; len = b * length xs }

-- a step is its command on its range; the range is tested before the command's own conditions
unfoldable pub step_row : List Bool → ℕ → Step → CommandRow
step_row right n step =
    if range_lies n step.from step.to then on_range step.from step.to (op_row right (step.to - step.from) step.op) else refused Refusal.Range

-- What comes of a step: what its row says, unless it is refused.
abbrev pub step_outcome : List Bool → ℕ → Step → CommandRow
step_outcome right n step = outcome (step_row right n step)

-- The reply of a step to a list.
abbrev pub step_reply : List Bool → List Bool → Step → Reply
step_reply right list step = (step_outcome right (length list) step).reply list

-- The list that a step leaves of a list.
abbrev pub step_list : List Bool → List Bool → Step → List Bool
step_list right list step = (step_outcome right (length list) step).list list
