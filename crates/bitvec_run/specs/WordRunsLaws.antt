-- A run of one command under an order that works by words: how many word steps it takes.
use Rattle.std.specs.Prelude.{ℕ, ◌-◌, ◌*◌, ◌≤◌, ◌==◌, Bool, true, if◌then◌else◌, Option, Some, None, List, [], ◌∷◌}
use Rattle.std.specs.Int.{div_ceil}
use Rattle.std.proofs.Common.{arith, subst, sym, ⊎_elim}
use Rattle.std.proofs.lemmas.Bool.{cases_Bool}
use Rattle.bitvec_base.specs.declared.window.Window.{Window}
use Rattle.bitvec_cells.specs.declared.cells.CellsRead.{Ghosts as Access}
use Rattle.bitvec_cells.specs.Access.{CostsAtMost, OnlyReadsAtMost}
use Rattle.bitvec_store.specs.Width.{IsWidth}
use Rattle.bitvec_engine.specs.WordSteps.{EditsInSteps, ReadsInSteps, WritesInSteps, word_span}
use Rattle.bitvec_engine.specs.WordStepsLaws.{edits-words, equal_loads-words, equals-words, reads-words, writes-words}
use Rattle.bitvec_commands.specs.declared.command.Op.{Op}
use Rattle.bitvec_commands.specs.declared.command.Op.TheVariants.{And, CopyFrom, CopyWithin, Eq, Or, Xor}
use Rattle.bitvec_commands.specs.declared.command.Refusal.{Refusal}
use Rattle.bitvec_commands.specs.declared.command.Reply.{Reply}
use Rattle.bitvec_run.specs.declared.step.Step.{Step}
use Rattle.bitvec_commands.specs.Commands.{op_row}
use Rattle.bitvec_commands.specs.Costs.{Cost, Place, place_after, place_of}
use Rattle.bitvec_commands.specs.Groups.{IsOperator}
use Rattle.bitvec_commands.specs.Rows.{CommandRow, on_range, outcome, range_lies, unless_refused}
use Rattle.bitvec_run.specs.Runs.{RunsBy, run_cost, step_outcome}
use Rattle.bitvec_run.specs.RunsLaws.{step_row-inside, step_row-outside}

-- ---- what is refused costs nothing

record CostsWithin (cost most : Cost) : Type 0 where
  pub loads : cost.loads ≤ most.loads
  pub stores : cost.stores ≤ most.stores
  pub right_loads : cost.right_loads ≤ most.right_loads

unless-within : (refusal : Option Refusal) (row : CommandRow) (place : Place) → CostsWithin ((unless_refused refusal row).cost place) (row.cost place)
unless-within None row place = record { loads = omega arith; stores = omega arith; right_loads = omega arith }
unless-within (Some refusal) row place = record { loads = omega arith; stores = omega arith; right_loads = omega arith }

-- a step costs at most what its command does on its range
step-within : (right : List Bool) (n : ℕ) (place : Place) (step : Step)
    → CostsWithin ((step_outcome right n step).cost place) ((op_row right (step.to - step.from) step.op).cost (place_after step.from place))
step-within right n place step =
    let row = op_row right (step.to - step.from) step.op in
    let P : CommandRow → Type 0 = λ made. CostsWithin ((outcome made).cost place) (row.cost (place_after step.from place)) in
    ⊎_elim
    (λ inside. subst P (sym (step_row-inside right n step inside)) (unless-within row.refusal (on_range step.from step.to row) place))
    (λ outside. subst P (sym (step_row-outside right n step outside)) (record { loads = omega arith; stores = omega arith; right_loads = omega arith }))
    (cases_Bool (range_lies n step.from step.to))

-- and so does a run of it alone
one-within : (right : List Bool) (n : ℕ) (place : Place) (step : Step)
    → CostsWithin (run_cost (step_outcome right) n place (step ∷ [])) ((op_row right (step.to - step.from) step.op).cost (place_after step.from place))
one-within right n place step =
    let within = step-within right n place step in
    record { loads = omega (arith, within.loads); stores = omega (arith, within.stores); right_loads = omega (arith, within.right_loads) }

-- ---- the commands

module _ {E F C D : Type 0} (access : Access C E) (beside : Access D F) (right : List Bool) (b : ℕ) (at : ℕ → ℕ → ℕ) (window : Window) (from to : ℕ) (old new : C) (right_old right_new : D) (made : List Reply) where
  -- a run of one command on the bits from..to
  abbrev RunsOne : Op → Type 0
  RunsOne op = RunsBy access beside (step_outcome right) b at true window (record { from = from; to = to; op = op } ∷ []) old new right_old right_new made

  -- what its row may cost there
  abbrev row_cost : Op → Cost
  row_cost op = (op_row right (to - from) op).cost (place_after from (place_of b true window))

  costs-row : (op : Op) → RunsOne op → CostsAtMost access old new (row_cost op).loads (row_cost op).stores
  costs-row op ran =
      let within = one-within right window.len (place_of b true window) (record { from = from; to = to; op = op }) in
      record { borrow = ran.cost.borrow; loads = omega (arith, ran.cost.loads, within.loads); stores = omega (arith, ran.cost.stores, within.stores) }

  reads-row : (op : Op) → RunsOne op → OnlyReadsAtMost beside right_old right_new (row_cost op).right_loads
  reads-row op ran =
      let within = one-within right window.len (place_of b true window) (record { from = from; to = to; op = op }) in
      record { numbers = ran.right.numbers; borrow = ran.right.borrow; loads = omega (arith, ran.right.loads, within.right_loads); stores = ran.right.stores }

  -- `CopyFrom` of `n` bits writes the left memory in at most `n / 64` word steps, rounded up.
  pub copy-steps : (source : Window) → IsWidth b → RunsOne (CopyFrom source) → WritesInSteps access old new b (div_ceil (to - from) 64)
  copy-steps source width ran = writes-words access old new b (to - from) width (costs-row (CopyFrom source) ran)

  -- `CopyFrom` of `n` bits reads the right memory in at most `n / 64` word steps, rounded up.
  pub copy-right_steps : (source : Window) → IsWidth b → RunsOne (CopyFrom source) → ReadsInSteps beside right_old right_new b (div_ceil (to - from) 64)
  copy-right_steps source width ran = reads-words beside right_old right_new b (to - from) width (reads-row (CopyFrom source) ran)

  -- `CopyWithin` of `n` bits edits the memory in at most `n / 64` word steps, rounded up.
  pub move-steps : (start end dest : ℕ) → IsWidth b → RunsOne (CopyWithin start end dest) → EditsInSteps access old new b (div_ceil (end - start) 64)
  move-steps start end dest width ran = edits-words access old new b (end - start) width (costs-row (CopyWithin start end dest) ran)

  -- `And`, `Or` and `Xor` of `n` bits edit the left memory in at most `n / 64` word steps, rounded up.
  pub operator-steps : (op : Op) → IsOperator op → IsWidth b → RunsOne op → EditsInSteps access old new b (div_ceil (to - from) 64)
  operator-steps (And source) is width ran = edits-words access old new b (to - from) width (costs-row (And source) ran)
  operator-steps (Or source) is width ran = edits-words access old new b (to - from) width (costs-row (Or source) ran)
  operator-steps (Xor source) is width ran = edits-words access old new b (to - from) width (costs-row (Xor source) ran)
  operator-steps _ is width ran = absurd is

  -- `And`, `Or` and `Xor` of `n` bits read the right memory in at most `n / 64` word steps, rounded up.
  pub operator-right_steps : (op : Op) → IsOperator op → IsWidth b → RunsOne op → ReadsInSteps beside right_old right_new b (div_ceil (to - from) 64)
  operator-right_steps (And source) is width ran = reads-words beside right_old right_new b (to - from) width (reads-row (And source) ran)
  operator-right_steps (Or source) is width ran = reads-words beside right_old right_new b (to - from) width (reads-row (Or source) ran)
  operator-right_steps (Xor source) is width ran = reads-words beside right_old right_new b (to - from) width (reads-row (Xor source) ran)
  operator-right_steps _ is width ran = absurd is

  -- `Eq` of `n` bits reads the left memory in at most `n / 64` word steps, rounded up, and not at all where the lengths differ.
  pub equal-steps : (source : Window) → IsWidth b → RunsOne (Eq source) → CostsAtMost access old new ((if to - from == source.len then div_ceil (to - from) 64 else 0) * word_span b) 0
  equal-steps source width ran = rw (equal_loads-words b (to - from) source.len width) at (costs-row (Eq source) ran)

  -- `Eq` of `n` bits reads the right memory in at most `n / 64` word steps, rounded up, and not at all where the lengths differ.
  pub equal-right_steps : (source : Window) → IsWidth b → RunsOne (Eq source) → ReadsInSteps beside right_old right_new b (if to - from == source.len then div_ceil (to - from) 64 else 0)
  equal-right_steps source width ran = equals-words beside right_old right_new b (to - from) source.len width (reads-row (Eq source) ran)
