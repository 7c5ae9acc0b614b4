-- What the program does: a request and an input in, a status and a text out.
use Rattle.std.specs.Prelude.{◌≡◌, ℕ, ◌^◌, ◌<◌, ◌≤◌, Bool, List, length, Option, Some, None, IsSome, All}
use Rattle.std.specs.Io.KnownBytes.{Appends, Consumes, IsAtEnd}
use Rattle.std.specs.Str.{IsUtf8}
use Rattle.bitvec_base.specs.Memory.{Writes, list_in, memory_bits}
use Rattle.bitvec_commands.specs.declared.command.Reply.{Reply}
use Rattle.bitvec_run.specs.declared.run_error.RunError.{RunError}
use Rattle.bitvec_run.specs.declared.step.Step.{Step}
use Rattle.bitvec_run.specs.Fold.{list_after, replies_of}
use Rattle.bitvec_run.specs.Runs.{CanRun, FailsRun, step_list, step_reply}
use Rattle.bitdo_work.specs.Arguments.{Request}
use Rattle.bitdo_work.specs.Faults.{status_of, fault_text}
use Rattle.bitdo_work.specs.Steps.{steps_of, bad_line_of}
use Rattle.bitdo_work.specs.Texts.{line_of, run_text}
use Rattle.bitdo_work.specs.declared.fault.Fault.{Fault}
use Rattle.bitdo_work.specs.declared.fault.Fault.TheVariants.{Arguments, Input, Line, Run, Memory}

-- ---- the input, which is read from `old` on to `new`

-- it was read to its end, and is this text
pub record IsText (old new : Option (List ℕ)) (text : List ℕ) : Type 0 where
  pub read : Consumes old new text
  pub end : IsAtEnd new
  pub utf8 : IsUtf8 text

-- and it is a text of these steps
pub record GivesSteps (old new : Option (List ℕ)) (steps : List Step) : Type 0 where
  pub text : List ℕ
  pub input : IsText old new text
  pub steps_is : steps_of text ≡ Some steps

-- or a text whose first bad line has this number
pub record HasBadLine (old new : Option (List ℕ)) (number : ℕ) : Type 0 where
  pub text : List ℕ
  pub input : IsText old new text
  pub number_is : bad_line_of text ≡ Some number

-- when each fault of the input comes: that a reader fails or memory is refused, no definition can tell
abbrev pub InputFault : Option (List ℕ) → Option (List ℕ) → Fault → Type 0
InputFault old new Input = Unit {0}
InputFault old new (Line number) = HasBadLine old new number
InputFault old new Memory = Unit {0}
InputFault old new Arguments = ⊥
InputFault old new (Run why) = ⊥

-- ---- the run

-- the bits of the memory's window, and of the right memory
abbrev pub list_before : Request → List Bool
list_before given = list_in given.bits given.at given.memory given.window

abbrev pub right_bits : Request → List Bool
right_bits given = memory_bits given.bits given.at given.right

-- a run of the steps answers so and leaves these elements
pub record IsRun (given : Request) (steps : List Step) (replies : List Reply) (after : List ℕ) : Type 0 where
  pub made : CanRun given.bits given.memory given.window given.right
  pub replies_is : replies ≡ replies_of (step_reply (right_bits given)) (step_list (right_bits given)) (list_before given) steps
  pub writes : Writes given.bits given.at given.memory after given.window (list_after (step_list (right_bits given)) (list_before given) steps)

-- ---- the whole

-- a run of the request and the input, which answers so and leaves these elements
pub record HasRun (request : Option Request) (old new : Option (List ℕ)) (replies : List Reply) (after : List ℕ) : Type 0 where
  pub given : Request
  pub given_is : request ≡ Some given
  pub steps : List Step
  pub input : GivesSteps old new steps
  pub run : IsRun given steps replies after

-- such a run was printed: its replies, and the memory, whose elements fit their width
pub record PrintsRun (request : Option Request) (old new before after : Option (List ℕ)) : Type 0 where
  pub replies : List Reply
  pub elements : List ℕ
  pub made : HasRun request old new replies elements
  pub fit : All (λ element. element < 2 ^ made.given.bits) elements
  pub printed : Appends before after (run_text made.given.bits replies elements)

-- the run of the request and the input can't be made
pub record HasRunError (request : Option Request) (old new : Option (List ℕ)) (why : RunError) : Type 0 where
  pub given : Request
  pub given_is : request ≡ Some given
  pub steps : List Step
  pub input : GivesSteps old new steps
  pub fails : FailsRun given.bits given.memory given.window given.right (length steps) why

-- when each fault comes
abbrev pub HasFault : Option Request → Option (List ℕ) → Option (List ℕ) → Fault → Type 0
HasFault request old new Arguments = request ≡ None
HasFault request old new (Run why) = HasRunError request old new why
HasFault request old new fault = IsSome request × InputFault old new fault

-- no run was printed but the line of such a fault, and the status is the fault's
pub record PrintsFault (request : Option Request) (old new before after : Option (List ℕ)) (status : ℕ) : Type 0 where
  pub fault : Fault
  pub comes : HasFault request old new fault
  pub status_is : status ≡ status_of fault
  pub printed : Appends before after (line_of (fault_text fault))

-- the work on a request, which takes the reader from `input` on to `left`: with status 0 its run was printed, with 2
-- and 3 a fault, and with 1 the output failed
pub record Works {R : Type 0} (remaining : R → Option (List ℕ)) (request : Option Request) (input left : R) (before after : Option (List ℕ)) (status : ℕ) : Type 0 where
  pub known : status ≤ 3
  pub run : status ≡ 0 → PrintsRun request (remaining input) (remaining left) before after
  pub fault : 2 ≤ status → PrintsFault request (remaining input) (remaining left) before after status
  pub unread : request ≡ None → left ≡ input
