-- The status and the text of each fault.
use Rattle.std.specs.Prelude.{ℕ, List, codes}
use Rattle.nesting.specs.declared.fault.Fault.{Fault}
use Rattle.nesting.specs.declared.fault.Fault.TheVariants.{Arguments, Memory, Output, Stray}

abbrev pub status_of : Fault → ℕ
status_of Output = 1
status_of Arguments = 2
status_of Stray = 2
status_of Memory = 3

abbrev pub fault_text : Fault → List ℕ
fault_text Arguments = codes "usage: nesting TEXT .."
fault_text Stray = codes "a bracket closes nothing"
fault_text Memory = codes "out of memory"
fault_text Output = codes "the answer can't be printed"
