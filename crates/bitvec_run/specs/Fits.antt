-- What a step that isn't refused needs.
use Rattle.std.specs.Prelude.{ℕ, ◌-◌, ◌≤◌, ⊤}
use Rattle.bitvec_commands.specs.Groups.{FitsList, FitsRight}
use Rattle.bitvec_run.specs.declared.field_step.FieldOp.{FieldOp}
use Rattle.bitvec_run.specs.declared.field_step.FieldOp.TheVariants.{Plain}
use Rattle.bitvec_run.specs.declared.step.Step.{Step}

-- what a step that isn't refused names is there, in its range of a list of n bits and in a right list of r
pub record StepFits (n r : ℕ) (step : Step) : Type 0 where
  pub order : step.from ≤ step.to
  pub bound : step.to ≤ n
  pub list : FitsList (step.to - step.from) step.op
  pub right : FitsRight r step.op

-- it loads or stores a number
abbrev pub IsTransfer : FieldOp → Type 0
IsTransfer (Plain op) = ⊥
IsTransfer _ = ⊤

-- the bits from..to of a list of n are a field
pub record FitsTransfer (n from to : ℕ) : Type 0 where
  pub order : from ≤ to
  pub bound : to ≤ n
  pub some : 1 ≤ to - from
  pub most : to - from ≤ 128
