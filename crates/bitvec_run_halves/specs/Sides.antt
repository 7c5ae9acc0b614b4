-- Two lists, one of which each step works on.
use Rattle.std.specs.Prelude.{◌≡◌, ℕ, Bool, List, ◌++◌, drop, take}
use Rattle.bitvec_base.specs.declared.window.Window.{Window}
use Rattle.bitvec_base.specs.Memory.{Writes, list_in}
use Rattle.bitvec_base.specs.Window.{window_range}
use Rattle.bitvec_commands.specs.declared.command.Reply.{Reply}
use Rattle.bitvec_run.specs.declared.step.Step.{Step}
use Rattle.bitvec_run.specs.Fold.{list_after, replies_of}
use Rattle.bitvec_run.specs.Runs.{step_list, step_reply}
use Rattle.bitvec_run_halves.specs.declared.halves.Side.{Side}
use Rattle.bitvec_run_halves.specs.declared.halves.Side.TheVariants.{Left, Right}

-- a list's values before the index `mid`, and those from it on
abbrev pub halves_of : {X : Type 0} → ℕ → List X → List X × List X
halves_of mid xs = (take mid xs, drop mid xs)

-- The two lists, one after the other.
abbrev pub joined : {X : Type 0} → List X × List X → List X
joined lists = lists.0 ++ lists.1

-- The reply of a step that is made on the list that its side names.
abbrev pub side_reply : List Bool → List Bool × List Bool → Side × Step → Reply
side_reply right lists (Left, step) = step_reply right lists.0 step
side_reply right lists (Right, step) = step_reply right lists.1 step

-- The lists that a step leaves: it is made on the one that its side names, and the other stays.
abbrev pub side_lists : List Bool → List Bool × List Bool → Side × Step → List Bool × List Bool
side_lists right lists (Left, step) = (step_list right lists.0 step, lists.1)
side_lists right lists (Right, step) = (lists.0, step_list right lists.1 step)

-- what steps reply and leave in a window of a memory that is cut at `mid`, each made on the half that its side names
pub record RunsSides (b : ℕ) (at : ℕ → ℕ → ℕ) (right : List Bool) (window : Window) (mid : ℕ) (steps : List (Side × Step)) (old new : List ℕ) (replies : List Reply) : Type 0 where
  pub replies_is : replies ≡ replies_of (side_reply right) (side_lists right) (halves_of mid (list_in b at old window)) steps
  pub writes : Writes b at old new window (joined (list_after (side_lists right) (halves_of mid (list_in b at old window)) steps))

-- The window of the half that the side names, where the whole window is cut at `mid`.
abbrev pub side_window : Window → ℕ → Side → Window
side_window window mid Left = window_range window 0 mid
side_window window mid Right = window_range window mid window.len
