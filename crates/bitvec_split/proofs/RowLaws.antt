-- What a row of a split keeps, and that a step leaves fewer pieces.
use Rattle.std.specs.Prelude.{◌≡◌, ℕ, ◌-◌, ◌<◌, Bool, true, false, IfSome, None, Option, Some}
use Rattle.std.specs.Iterator.{MakesProgress, at_most}
use Rattle.std.specs.declared.ops.Range.{Range}
use Rattle.std.proofs.Common.{arith}
use Rattle.bitvec_split.specs.Splits.{IsCutBy, left_of_row, row_of}

-- what a row keeps is as long as what is left there
pub left-kept : (inclusive reversed : Bool) (m n j : ℕ) (piece rest : Range ℕ) → m ≡ n → IsCutBy (row_of inclusive reversed m) j piece rest → rest.end - rest.start ≡ left_of_row inclusive reversed n j
left-kept inclusive true m n j piece rest same cut = omega (arith, same, cut.from, cut.to)
left-kept inclusive false m n j piece rest same cut = omega (arith, same, cut.from, cut.to)

-- a step after which the next may be made, and after which fewer pieces may come where it gave one, makes progress
pub progress : {S A : Type 0} {can : S → Type 0} {most : S → ℕ} {s t : S} (r : Option A) → can t → IfSome r (λ _. most t < most s) → MakesProgress can (λ u. at_most (most u)) s r t
progress None goes fewer = record { on = λ _. tt; keeps = tt; rests = λ _. tt }
progress (Some x) goes fewer = record { on = λ _. (goes, tt, fewer); keeps = goes; rests = λ _. tt }
