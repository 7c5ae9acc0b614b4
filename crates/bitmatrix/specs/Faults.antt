-- The status and the text of each fault.
use Rattle.std.specs.Prelude.{ℕ, List, codes}
use Rattle.bitmatrix.specs.declared.fault.Fault.{Fault}
use Rattle.bitmatrix.specs.declared.fault.Fault.TheVariants.{Arguments, Input, Memory, Output}

abbrev pub status_of : Fault → ℕ
status_of Output = 1
status_of Arguments = 2
status_of Input = 2
status_of Memory = 3

abbrev pub fault_text : Fault → List ℕ
fault_text Arguments = codes "usage: bitmatrix rows | pairs [PAIR..] | chain N"
fault_text Input = codes "refused: no square of 0 and 1"
fault_text Memory = codes "out of memory"
fault_text Output = codes "the output can't be written"
