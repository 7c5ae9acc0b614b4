-- The status and the text of each fault.
use Rattle.std.specs.Prelude.{ℕ, List, codes}
use Rattle.canframe.specs.declared.fault.Fault.{Fault}
use Rattle.canframe.specs.declared.fault.Fault.TheVariants.{Arguments, Memory, NoFrame, Output}

abbrev pub status_of : Fault → ℕ
status_of Output = 1
status_of Arguments = 2
status_of NoFrame = 2
status_of Memory = 3

abbrev pub fault_text : Fault → List ℕ
fault_text Arguments = codes "usage: canframe encode ID BYTE.. | decode BYTE.."
fault_text NoFrame = codes "no frame"
fault_text Memory = codes "out of memory"
fault_text Output = codes "the answer can't be printed"
