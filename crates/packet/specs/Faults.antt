-- The faults: the status and the text of each.
use Rattle.std.specs.Prelude.{ℕ, List, ◌++◌, codes}
use Rattle.std.specs.Fmt.{decimal}
use Rattle.packet.specs.declared.fault.Fault.{Fault}
use Rattle.packet.specs.declared.fault.Fault.TheVariants.{Arguments, Input, Digit, Odd, Long, Truncated, Version, HeaderLength, Unknown, Fixed, Range, Memory}

abbrev pub status_of : Fault → ℕ
status_of Memory = 3
status_of _ = 2

-- It is what is wrong, without the number of a change.
abbrev pub reason_of : Fault → List ℕ
reason_of Arguments = codes "bad arguments"
reason_of Input = codes "bad input"
reason_of Digit = codes "bad digit"
reason_of Odd = codes "odd number of digits"
reason_of Long = codes "packet too long"
reason_of Truncated = codes "packet truncated"
reason_of Version = codes "version is not 4"
reason_of HeaderLength = codes "header length below 5"
reason_of (Unknown number) = codes "no such field"
reason_of (Fixed number) = codes "field can't be set"
reason_of (Range number) = codes "value too large"
reason_of Memory = codes "out of memory"

-- The line of a change's fault tells the number first.
abbrev pub change_text : ℕ → List ℕ → List ℕ
change_text number reason = codes "change " ++ decimal number ++ codes ": " ++ reason

abbrev pub fault_text : Fault → List ℕ
fault_text (Unknown number) = change_text number (reason_of (Unknown number))
fault_text (Fixed number) = change_text number (reason_of (Fixed number))
fault_text (Range number) = change_text number (reason_of (Range number))
fault_text fault = reason_of fault
