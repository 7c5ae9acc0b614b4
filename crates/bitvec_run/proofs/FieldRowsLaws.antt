-- What comes of a step with numbers: it is a plain step, or is refused, or is its command on its range.
use Rattle.std.specs.Prelude.{◌≡◌, ℕ, ◌+◌, ◌-◌, Bool, true, false, Some, None, List, refl}
use Rattle.std.proofs.Common.{sym, ◌∙◌, ap, subst, ⊎_elim}
use Rattle.std.proofs.lemmas.Bool.{cases_Bool, le-leb}
use Rattle.bitvec_commands.specs.declared.command.Op.{Op}
use Rattle.bitvec_commands.specs.declared.command.Refusal.{Refusal}
use Rattle.bitvec_commands.specs.Rows.{CommandRow, on_range, or_else, range_lies, refused, unless}
use Rattle.bitvec_run.specs.Runs.{step_outcome, step_row}
use Rattle.bitvec_run.specs.RunsLaws.{outcome-is}
use Rattle.bitvec_run.specs.declared.field_step.FieldOp.{FieldOp}
use Rattle.bitvec_run.specs.declared.field_step.FieldOp.TheVariants.{LoadBe, LoadLe, Plain, StoreBe, StoreLe}
use Rattle.bitvec_run.specs.declared.field_step.FieldStep.{FieldStep}
use Rattle.bitvec_run.specs.FieldRows.{field_outcome, field_row, field_step_row, width_refusal}
use Rattle.bitvec_run.specs.Fits.{FitsTransfer, IsTransfer}

plain-outcome : (high : Bool) (b s : ℕ) (right : List Bool) (n from to : ℕ) (op : Op) → step_outcome right n (record { from = from; to = to; op = op }) ≡ field_outcome high b s right n (record { from = from; to = to; op = Plain op })
unfolding field_step_row step_row
plain-outcome high b s right n from to op = refl

pub is-transfer : (op : FieldOp) → ((plain : Op) → op ≡ Plain plain → ⊥) → IsTransfer op
is-transfer (Plain plain) not = not plain refl
is-transfer LoadLe not = tt
is-transfer LoadBe not = tt
is-transfer (StoreLe v) not = tt
is-transfer (StoreBe v) not = tt

transfer-refusal : (high : Bool) (b s : ℕ) (right : List Bool) (m : ℕ) (op : FieldOp) → IsTransfer op → (field_row high b s right m op).refusal ≡ width_refusal m
transfer-refusal high b s right m (Plain plain) is = absurd is
transfer-refusal high b s right m LoadLe is = refl
transfer-refusal high b s right m LoadBe is = refl
transfer-refusal high b s right m (StoreLe v) is = refl
transfer-refusal high b s right m (StoreBe v) is = refl

module _ (high : Bool) (b s : ℕ) (right : List Bool) (n : ℕ) (step : FieldStep) where
  row-inside : range_lies n step.from step.to ≡ true → field_step_row high b s right n step ≡ on_range step.from step.to (field_row high b (s + step.from) right (step.to - step.from) step.op)
  unfolding field_step_row
  row-inside inside = rw inside refl

  row-outside : range_lies n step.from step.to ≡ false → field_step_row high b s right n step ≡ refused Refusal.Range
  unfolding field_step_row
  row-outside outside = rw outside refl

  row-refusal : IsTransfer step.op → (field_step_row high b s right n step).refusal ≡ or_else (unless (range_lies n step.from step.to) Refusal.Range) (width_refusal (step.to - step.from))
  row-refusal is =
      ⊎_elim
      (λ inside. ap (λ (r : CommandRow). r.refusal) (row-inside inside) ∙ transfer-refusal high b (s + step.from) right (step.to - step.from) step.op is ∙ rw inside refl)
      (λ outside. ap (λ (r : CommandRow). r.refusal) (row-outside outside) ∙ rw outside refl)
      (cases_Bool (range_lies n step.from step.to))

  -- a transfer by its refusal, which is told in another way
  pub transfer-refused : IsTransfer step.op → (refusal : Refusal) → or_else (unless (range_lies n step.from step.to) Refusal.Range) (width_refusal (step.to - step.from)) ≡ Some refusal → field_outcome high b s right n step ≡ refused refusal
  transfer-refused is refusal told = outcome-is (field_step_row high b s right n step) (Some refusal) (row-refusal is ∙ told)

  pub transfer-does : IsTransfer step.op → or_else (unless (range_lies n step.from step.to) Refusal.Range) (width_refusal (step.to - step.from)) ≡ None → FitsTransfer n step.from step.to
      → field_outcome high b s right n step ≡ on_range step.from step.to (field_row high b (s + step.from) right (step.to - step.from) step.op)
  transfer-does is told fits =
      outcome-is (field_step_row high b s right n step) None (row-refusal is ∙ told)
      ∙ row-inside (rw (le-leb _ _ fits.order, le-leb _ _ fits.bound) refl)

-- a plain step is that step
pub plain-is : (high : Bool) (b s : ℕ) (right : List Bool) (n : ℕ) (step : FieldStep) (op : Op) → step.op ≡ Plain op → field_outcome high b s right n step ≡ step_outcome right n (record { from = step.from; to = step.to; op = op })
plain-is high b s right n step op is =
    sym (subst (λ (o : FieldOp). step_outcome right n (record { from = step.from; to = step.to; op = op }) ≡ field_outcome high b s right n (record { from = step.from; to = step.to; op = o }))
    (sym is) (plain-outcome high b s right n step.from step.to op))
