-- What a run does, by its status.
use Rattle.std.specs.Prelude.{◌≡◌, ◌≢◌, ◌≤◌, ℕ, Bool, List, ◌++◌, drop, if◌then◌else◌, length, map, nat_le, nat_lt, true}
use Rattle.std.specs.List.{list_all}
use Rattle.bitvec_base.specs.declared.window.Window.{Window}
use Rattle.bitvec_base.specs.Memory.{Writes, list_in, memory_bits}
use Rattle.bitvec_commands.specs.declared.command.Reply.{Reply}
use Rattle.bitvec_run.specs.declared.field_step.FieldStep.{FieldStep}
use Rattle.bitvec_run.specs.FieldRows.{field_outcome}
use Rattle.bitvec_commands.specs.Rows.{row_list, row_reply}
use Rattle.bitvec_run.specs.Fold.{list_after, replies_of}
use Rattle.bitvec_checked_run.specs.declared.replies.RawReply.{RawReply}
use Rattle.bitvec_checked_run.specs.declared.steps.RawStep.{RawStep}
use Rattle.bitvec_checked.specs.Calls.{Under}
use Rattle.bitvec_checked.specs.Statuses.{memories_status, or_next}
use Rattle.bitvec_checked_run.specs.Steps.{raw_reply, step_of}

-- there is an operation of the number of each step
abbrev pub are_steps : List RawStep → Bool
are_steps steps = list_all (λ step. nat_lt step.op 33) steps

-- and a place for each reply
abbrev pub steps_status : List RawStep → ℕ → ℕ
steps_status steps room = if are_steps steps then (if nat_le (length steps) room then 0 else 13) else 12

-- so a run may begin
pub record FitRoom (steps : List RawStep) (places : ℕ) : Type 0 where
  pub known : are_steps steps ≡ true
  pub room : length steps ≤ places

-- the reply of a step on a list beside a right list, and the list after it; `s` is the place of the list's first bit in the memory
abbrev pub field_reply : Bool → ℕ → ℕ → List Bool → List Bool → FieldStep → Reply
field_reply high b s right = row_reply (field_outcome high b s right)

abbrev pub field_list : Bool → ℕ → ℕ → List Bool → List Bool → FieldStep → List Bool
field_list high b s right = row_list (field_outcome high b s right)

-- the replies of steps on a list, beside a right list, and the list after them; `s` is the place of the list's first bit in the memory
abbrev pub raw_replies : Bool → ℕ → ℕ → List Bool → List Bool → List RawStep → List RawReply
raw_replies high b s right list steps = map raw_reply (replies_of (field_reply high b s right) (field_list high b s right) list (map step_of steps))

abbrev pub list_after_steps : Bool → ℕ → ℕ → List Bool → List Bool → List RawStep → List Bool
list_after_steps high b s right list steps = list_after (field_list high b s right) list (map step_of steps)

-- what steps did through a window of a memory, beside all bits of a right memory: places without a step stay
pub record RunsSteps (high : Bool) (b : ℕ) (at : ℕ → ℕ → ℕ) (window : Window) (steps : List RawStep) (right old new : List ℕ) (replies_old replies_new : List RawReply) : Type 0 where
  pub replies : replies_new ≡ raw_replies high b window.start (memory_bits b at right) (list_in b at old window) steps ++ drop (length steps) replies_old
  pub writes : Writes b at old new window (list_after_steps high b window.start (memory_bits b at right) (list_in b at old window) steps)

module _ {E : Type 0} (order b : ℕ) (value : E → ℕ) where
  -- Which status a run has, by its memories and then by its steps; what its steps did where that is 0, and that nothing changed else.
  pub record Runs (window : Window) (old new right : List E) (steps : List RawStep) (replies_old replies_new : List RawReply) (status : ℕ) : Type 0 where
    pub status_is : status ≡ or_next (memories_status order b (map value old) window (map value right)) (steps_status steps (length replies_old))
    pub runs : status ≡ 0 → Under order (λ at high. RunsSteps high b at window steps (map value right) (map value old) (map value new) replies_old replies_new)
    pub unchanged : status ≢ 0 → (new ≡ old) × (replies_new ≡ replies_old)
