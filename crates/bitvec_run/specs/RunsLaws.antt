-- A step that isn't refused is its command on its range; when the errors of a run come.
use Rattle.std.specs.Prelude.{◌≡◌, ◌↔◌, ℕ, ◌-◌, ◌≤◌, Bool, true, false, Option, Some, None, List, length, refl, Err, IfErr, IfNone, IsOk, Ok, OnOk, Result, Vec}
use Rattle.std.proofs.Common.{arith, sym, ◌∙◌, ap, ⊎_elim}
use Rattle.std.proofs.lemmas.Bool.{cases_Bool}
use Rattle.bitvec_base.specs.declared.window.Window.{Window}
use Rattle.bitvec_base.specs.Memory.{FitsMaxBits, HasWindow}
use Rattle.bitvec_cells.specs.declared.cells.CellsRead.{Ghosts as Access}
use Rattle.bitvec_commands.specs.declared.command.Reply.{Reply}
use Rattle.bitvec_commands.specs.declared.command.Refusal.{Refusal}
use Rattle.bitvec_run.specs.declared.run_error.RunError.{RunError}
use Rattle.bitvec_run.specs.declared.run_error.RunError.TheVariants as error
use Rattle.bitvec_run.specs.declared.step.Step.{Step}
use Rattle.bitvec_commands.specs.Commands.{op_row, op_refusal}
use Rattle.bitvec_commands.specs.CommandsLaws.{fits_list, fits_right}
use Rattle.bitvec_run.specs.Fits.{StepFits}
use Rattle.bitvec_commands.specs.Rows.{CommandRow, on_range, outcome, range_lies, refused, unless_refused}
use Rattle.bitvec_run.specs.Runs.{CanRun, FailsRun, RunsOrFails, step_outcome, step_row}

-- What comes of a row is what its refusal, computed elsewhere, makes of it.
pub outcome-is : (row : CommandRow) (refusal : Option Refusal) → row.refusal ≡ refusal → outcome row ≡ unless_refused refusal row
outcome-is row refusal is = ap (λ (r : Option Refusal). unless_refused r row) is

-- A step whose range lies in the list is its command on that range.
pub step_row-inside : (right : List Bool) (n : ℕ) (step : Step) → range_lies n step.from step.to ≡ true → step_row right n step ≡ on_range step.from step.to (op_row right (step.to - step.from) step.op)
unfolding step_row
step_row-inside right n step inside = rw inside refl

-- A step whose range doesn't lie in the list is refused.
pub step_row-outside : (right : List Bool) (n : ℕ) (step : Step) → range_lies n step.from step.to ≡ false → step_row right n step ≡ refused Refusal.Range
unfolding step_row
step_row-outside right n step outside = rw outside refl

step-inside : (right : List Bool) (n : ℕ) (step : Step) → (step_row right n step).refusal ≡ None → range_lies n step.from step.to ≡ true
step-inside right n step none =
    ⊎_elim
    (λ inside. inside)
    (λ outside. let is = ap (λ (row : CommandRow). row.refusal) (step_row-outside right n step outside) in let no : Some Refusal.Range ≡ None = sym is ∙ none in cc)
    (cases_Bool (range_lies n step.from step.to))

-- A step that isn't refused does what its command does on its range.
pub step-does : (right : List Bool) (n : ℕ) (step : Step) → (step_row right n step).refusal ≡ None → step_outcome right n step ≡ on_range step.from step.to (op_row right (step.to - step.from) step.op)
step-does right n step none = outcome-is (step_row right n step) None none ∙ step_row-inside right n step (step-inside right n step none)

-- A step whose computed refusal is none names only what its range and the right list have.
pub refusal-fits : (right : List Bool) (n : ℕ) (step : Step) (refusal : Option Refusal) → step.from ≤ step.to → step.to ≤ n → refusal ≡ op_refusal right (step.to - step.from) step.op → IfNone refusal (StepFits n (length right) step)
refusal-fits right n step None order bound is = record {
  order = order;
  bound = bound;
  list = fits_list right (step.to - step.from) step.op (sym is);
  right = fits_right right (step.to - step.from) step.op (sym is);
}
refusal-fits right n step (Some refusal) order bound is = tt

-- The two errors come exactly where they should, and a run of no steps that can be made is made.
pub record ErrsExactly {A : Type 0} (b : ℕ) (xs : List ℕ) (window : Window) (ys : List ℕ) (n : ℕ) (result : Result A RunError) : Type 0 where
  pub window_error : (result ≡ Err error.Window) ↔ (¬ HasWindow b xs window)
  pub right_error : (result ≡ Err error.Right) ↔ (HasWindow b xs window × (¬ FitsMaxBits b ys))
  pub no_steps : CanRun b xs window ys → n ≡ 0 → IsOk result

-- where a run is made only if it can be, and else says why it isn't, each error comes exactly where it should
module _ {A : Type 0} (b : ℕ) (xs : List ℕ) (window : Window) (ys : List ℕ) (n : ℕ) where
  -- A run that fails only as it should, and succeeds only where it can be made, gives its errors exactly where they should come.
  pub errs-exactly : (result : Result A RunError) → OnOk result (CanRun b xs window ys) → IfErr result (FailsRun b xs window ys n) → ErrsExactly b xs window ys n result
  errs-exactly (Ok value) made fails = record {
    window_error = (λ is. cc, λ none. absurd (none made.has_window));
    right_error = (λ is. cc, λ wrong. absurd (wrong.1 made.right_fits));
    no_steps = λ can none. refl;
  }
  errs-exactly (Err error.Window) made fails = record {
    window_error = (λ is. fails, λ none. refl);
    right_error = (λ is. cc, λ wrong. absurd (fails wrong.0));
    no_steps = λ can none. absurd (fails can.has_window);
  }
  errs-exactly (Err error.Right) made fails = record {
    window_error = (λ is. cc, λ none. absurd (none fails.0));
    right_error = (λ is. fails, λ wrong. refl);
    no_steps = λ can none. absurd (fails.1 can.right_fits);
  }
  errs-exactly (Err error.Memory) made fails = record {
    window_error = (λ is. cc, λ none. absurd (none fails.0.has_window));
    right_error = (λ is. cc, λ wrong. absurd (wrong.1 fails.0.right_fits));
    no_steps = λ can none. absurd (omega (arith, fails.1, none));
  }

-- what comes of a run of steps that are rows beside a right list
module _ {E F C D S A : Type 0} {access : Access C E} {beside : Access D F} {row_of : List Bool → ℕ → S → CommandRow} {b : ℕ} {at : ℕ → ℕ → ℕ} {words : Bool} {window : Window} {steps : List S} where
  -- The errors of `run` and of `run_fields` come exactly where they should.
  pub RunsOrFails-errors : {old new : C} {right_old right_new : D} {result : Result (Vec Reply A) RunError} → RunsOrFails access beside row_of b at words window steps old new right_old right_new result
      → ErrsExactly b (access.numbers old) window (beside.numbers right_old) (length steps) result
  RunsOrFails-errors {old} {new} {right_old} {right_new} {result} did =
      errs-exactly b (access.numbers old) window (beside.numbers right_old) (length steps) result did.made did.fails
