-- The status and the text of each fault.
use Rattle.std.specs.Prelude.{ℕ, List, codes}
use Rattle.slots.specs.declared.fault.Fault.{Fault}
use Rattle.slots.specs.declared.fault.Fault.TheVariants.{Arguments, Full, NotTaken, Read, Write, Memory, Output}

abbrev pub status_of : Fault → ℕ
status_of Output = 1
status_of Arguments = 2
status_of Full = 2
status_of NotTaken = 2
status_of Read = 3
status_of Write = 3
status_of Memory = 3

abbrev pub fault_text : Fault → List ℕ
fault_text Arguments = codes "usage: slots FILE take COUNT | give START [COUNT] | show"
fault_text Full = codes "refused: no such run of free places"
fault_text NotTaken = codes "refused: not all taken"
fault_text Read = codes "the map can't be read"
fault_text Write = codes "the new map can't be written"
fault_text Memory = codes "out of memory"
fault_text Output = codes "the answer can't be printed"
