-- The status and the text of each fault.
use Rattle.std.specs.Prelude.{ℕ, List, codes}
use Rattle.deflate.specs.declared.fault.Fault.{Fault}
use Rattle.deflate.specs.declared.fault.Fault.TheVariants.{Arguments, BlockKind, Distance, Ended, Input, Memory, Output, StoredLength, Symbol}

abbrev pub status_of : Fault → ℕ
status_of Output = 1
status_of Arguments = 2
status_of Ended = 2
status_of BlockKind = 2
status_of StoredLength = 2
status_of Symbol = 2
status_of Distance = 2
status_of Input = 3
status_of Memory = 3

abbrev pub fault_text : Fault → List ℕ
fault_text Arguments = codes "usage: deflate decode | encode"
fault_text Ended = codes "the stream ends within a block"
fault_text BlockKind = codes "a block of another kind"
fault_text StoredLength = codes "two lengths of a block differ"
fault_text Symbol = codes "a symbol that stands for nothing"
fault_text Distance = codes "a distance back to no byte"
fault_text Input = codes "the input can't be read"
fault_text Memory = codes "out of memory"
fault_text Output = codes "the answer can't be written"
