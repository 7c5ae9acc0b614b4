-- The faults that keep a run from being made: the status and the text of each.
use Rattle.std.specs.Prelude.{ℕ, List, ◌++◌, codes}
use Rattle.std.specs.Fmt.{decimal}
use Rattle.bitvec_run.specs.declared.run_error.RunError.{RunError}
use Rattle.bitvec_run.specs.declared.run_error.RunError.TheVariants as error
use Rattle.bitdo_work.specs.declared.fault.Fault.{Fault}
use Rattle.bitdo_work.specs.declared.fault.Fault.TheVariants.{Arguments, Input, Line, Run, Memory}

abbrev pub status_of : Fault → ℕ
status_of Arguments = 2
status_of Input = 2
status_of (Line number) = 2
status_of (Run why) = 3
status_of Memory = 3

abbrev pub run_error_text : RunError → List ℕ
run_error_text error.Window = codes "run error: window"
run_error_text error.Right = codes "run error: right"
run_error_text error.Memory = codes "run error: memory"

abbrev pub fault_text : Fault → List ℕ
fault_text Arguments = codes "bad arguments"
fault_text Input = codes "bad input"
fault_text (Line number) = codes "bad line " ++ decimal number
fault_text (Run why) = run_error_text why
fault_text Memory = run_error_text error.Memory
