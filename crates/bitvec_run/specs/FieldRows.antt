-- What steps with numbers mean on plain lists of truth values.
--
-- `s` is the place of the window's first bit in a memory of b-bit elements, under an order that is `high` or not; `right` is the right
-- list, and the window's list has n bits.
use Rattle.std.specs.Prelude.{ℕ, ◌+◌, ◌-◌, Bool, ◌&&◌, nat_le, if◌then◌else◌, Option, List}
use Rattle.bitvec_commands.specs.declared.command.Refusal.{Refusal}
use Rattle.bitvec_commands.specs.declared.command.Reply.TheVariants.{Number}
use Rattle.bitvec_commands.specs.Commands.{op_row}
use Rattle.bitvec_commands.specs.Costs.{fill_cost, scan_cost}
use Rattle.bitvec_commands.specs.Rows.{CommandRow, asks, edits, on_range, outcome, range_lies, refused, unless}
use Rattle.bitvec_run.specs.declared.field_step.FieldOp.{FieldOp}
use Rattle.bitvec_run.specs.declared.field_step.FieldOp.TheVariants.{LoadBe, LoadLe, Plain, StoreBe, StoreLe}
use Rattle.bitvec_run.specs.declared.field_step.FieldStep.{FieldStep}
use Rattle.bitvec_segments.specs.Segments.{loaded_be, loaded_le, stored_be, stored_le}

-- a field has 1 to 128 bits
abbrev pub width_refusal : ℕ → Option Refusal
width_refusal m = unless (nat_le 1 m && nat_le m 128) Refusal.Width

-- a command on m bits, the first of which stands at the place s
abbrev pub field_row : Bool → ℕ → ℕ → List Bool → ℕ → FieldOp → CommandRow
field_row high b s right m (Plain op) = op_row right m op
field_row high b s right m LoadLe = asks (width_refusal m) (λ list. Number (loaded_le high b s list)) (scan_cost m)
field_row high b s right m LoadBe = asks (width_refusal m) (λ list. Number (loaded_be high b s list)) (scan_cost m)
field_row high b s right m (StoreLe v) = edits (width_refusal m) (stored_le high b s v) (fill_cost m)
field_row high b s right m (StoreBe v) = edits (width_refusal m) (stored_be high b s v) (fill_cost m)

-- a step is its command on its range, cut by the places of the memory; the range is tested before the command's own condition
unfoldable pub field_step_row : Bool → ℕ → ℕ → List Bool → ℕ → FieldStep → CommandRow
field_step_row high b s right n step =
    if range_lies n step.from step.to then on_range step.from step.to (field_row high b (s + step.from) right (step.to - step.from) step.op) else refused Refusal.Range

-- What comes of a step with numbers: what its row says, unless it is refused.
abbrev pub field_outcome : Bool → ℕ → ℕ → List Bool → ℕ → FieldStep → CommandRow
field_outcome high b s right n step = outcome (field_step_row high b s right n step)
