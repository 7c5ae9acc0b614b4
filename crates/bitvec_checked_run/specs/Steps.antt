-- Steps of a run, and their replies, as structs of numbers.
use Rattle.std.specs.Prelude.{ℕ, Bool, not, ◌+◌, ◌*◌, ◌/◌, ◌%◌, ◌^◌, ◌==◌, if◌then◌else◌, Some, None, List, [], ◌∷◌, slice_index_or}
use Rattle.std.specs.declared.cmp.Ordering.{Ordering}
use Rattle.std.specs.declared.cmp.Ordering.TheVariants.{Less, Equal, Greater}
use Rattle.bitvec_commands.specs.declared.command.Op.TheVariants.{Get, Set, Replace, Swap, Fill, Invert, Reverse, ShiftStart, ShiftEnd, RotateLeft, RotateRight, CopyWithin, CopyFrom, And, Or, Xor, Eq, Cmp, StartsWith, EndsWith, Contains, CountOnes, CountZeros, FirstOne, FirstZero, LastOne, LastZero, Any, All}
use Rattle.bitvec_commands.specs.declared.command.Reply.{Reply}
use Rattle.bitvec_commands.specs.declared.command.Reply.TheVariants.{Bit, Count, Done, Index, Number, Order, Refused}
use Rattle.bitvec_run.specs.declared.field_step.FieldOp.{FieldOp}
use Rattle.bitvec_run.specs.declared.field_step.FieldOp.TheVariants.{LoadBe, LoadLe, Plain, StoreBe, StoreLe}
use Rattle.bitvec_run.specs.declared.field_step.FieldStep.{FieldStep}
use Rattle.bitvec_checked_run.specs.declared.steps.RawStep.{RawStep}
use Rattle.bitvec_checked_run.specs.declared.replies.RawReply.{RawReply}
use Rattle.bitvec_checked.specs.Statuses.{bits_from, refusal_number}

-- ---- steps

-- a bit as a number: any but 0 is 1
abbrev pub is_set : ℕ → Bool
is_set bit = not (bit == 0)

-- what the operations make of a step's other fields, in the order of their numbers
unfoldable pub operations_of : RawStep → List FieldOp
operations_of step =
    let first = step.first in
    let second = step.second in
    let bit = is_set step.bit in
    let window = bits_from first second in
    let number = first + 2 ^ 64 * second in
    Plain (Get first) ∷ Plain (Set first bit) ∷ Plain (Replace first bit) ∷ Plain (Swap first second) ∷ Plain (Fill bit) ∷ Plain Invert ∷ Plain Reverse
    ∷ Plain (ShiftStart first) ∷ Plain (ShiftEnd first) ∷ Plain (RotateLeft first) ∷ Plain (RotateRight first) ∷ Plain (CopyWithin first second step.third)
    ∷ Plain (CopyFrom window) ∷ Plain (And window) ∷ Plain (Or window) ∷ Plain (Xor window)
    ∷ Plain (Eq window) ∷ Plain (Cmp window) ∷ Plain (StartsWith window) ∷ Plain (EndsWith window) ∷ Plain (Contains window)
    ∷ Plain CountOnes ∷ Plain CountZeros ∷ Plain FirstOne ∷ Plain FirstZero ∷ Plain LastOne ∷ Plain LastZero ∷ Plain Any ∷ Plain All
    ∷ LoadLe ∷ LoadBe ∷ StoreLe number ∷ StoreBe number ∷ []

-- the one of its number, of which there is one
unfoldable pub operation_of : RawStep → FieldOp
operation_of step = slice_index_or (operations_of step) step.op (Plain Any)

abbrev pub step_of : RawStep → FieldStep
step_of step = record { from = step.from; to = step.to; op = operation_of step }

-- ---- replies

abbrev pub raw : ℕ → ℕ → ℕ → ℕ → RawReply
raw kind low high status = record { low = low; high = high; kind = kind; status = status }

abbrev pub bit_number : Bool → ℕ
bit_number bit = if bit then 1 else 0

abbrev pub ordering_number : Ordering → ℕ
ordering_number Less = 0
ordering_number Equal = 1
ordering_number Greater = 2

abbrev pub raw_reply : Reply → RawReply
raw_reply Done = raw 0 0 0 0
raw_reply (Bit bit) = raw 1 (bit_number bit) 0 0
raw_reply (Count count) = raw 2 count 0 0
raw_reply (Index (Some index)) = raw 3 index 0 0
raw_reply (Index None) = raw 3 0 0 11
raw_reply (Order order) = raw 4 (ordering_number order) 0 0
raw_reply (Number number) = raw 5 (number % 2 ^ 64) (number / 2 ^ 64) 0
raw_reply (Refused refusal) = raw 6 0 0 (refusal_number refusal)
