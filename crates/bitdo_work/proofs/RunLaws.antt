-- A run by accessors is one on the elements.
use Rattle.std.proofs.Common.{◌≡◌, ℕ, Bool, List, Result, Ok, Err, IfOk, OnOk, Vec, vec_items}
use Rattle.bitvec_base.specs.Memory.{memory_bits}
use Rattle.bitvec_cells.specs.declared.cells.CellsRead.{Ghosts as Access}
use Rattle.bitvec_commands.specs.declared.command.Reply.{Reply}
use Rattle.bitvec_run.specs.declared.run_error.RunError.{RunError}
use Rattle.bitvec_run.specs.declared.step.Step.{Step}
use Rattle.bitvec_run.specs.Runs.{CanRun, RunsBy, step_outcome}
use Rattle.bitdo_work.specs.Arguments.{Request}
use Rattle.bitdo_work.specs.Program.{IsRun}

module _ {E F C D A : Type 0} (access : Access C E) (beside : Access D F) (given : Request) where
  pub IsRun_by : (words : Bool) (steps : List Step) (result : Result (Vec Reply A) RunError) (old new : C) (right_old right_new : D) (after : List ℕ)
      → access.numbers old ≡ given.memory → access.numbers new ≡ after → beside.numbers right_old ≡ given.right
      → OnOk result (CanRun given.bits (access.numbers old) given.window (beside.numbers right_old))
      → IfOk result
      (λ replies. RunsBy access beside (step_outcome (memory_bits given.bits given.at (beside.numbers right_old))) given.bits given.at words given.window steps old new right_old right_new (vec_items replies))
      → IfOk result (λ replies. IsRun given steps (vec_items replies) after)
  IsRun_by words steps (Ok replies) old new right_old right_new after memory left right made ran = record {
    made = rw (← memory, ← right) made;
    replies_is = rw (← memory, ← right) ran.replies;
    writes = rw (← memory, ← right, ← left) ran.writes;
  }
  IsRun_by words steps (Err why) old new right_old right_new after memory left right made ran = ran
