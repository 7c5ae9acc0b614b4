-- What the program prints of a run.
use Rattle.std.specs.Prelude.{ℕ, zero, suc, ◌+◌, ◌-◌, ◌/◌, ◌%◌, ◌^◌, nat_lt, if◌then◌else◌, Bool, true, false, List, [], ◌∷◌, ◌++◌, Option, Some, None, codes}
use Rattle.std.specs.declared.cmp.Ordering.{Ordering}
use Rattle.std.specs.declared.cmp.Ordering.TheVariants.{Less, Equal, Greater}
use Rattle.std.specs.Fmt.{decimal}
use Rattle.std.specs.List.{flat_map}
use Rattle.bitvec_commands.specs.declared.command.Refusal.{Refusal}
use Rattle.bitvec_commands.specs.declared.command.Refusal.TheVariants.{Range, Index, Amount, Source, Dest, Right, Length, Width}
use Rattle.bitvec_commands.specs.declared.command.Reply.{Reply}
use Rattle.bitvec_commands.specs.declared.command.Reply.TheVariants as reply

-- the text on a line of its own
abbrev pub line_of : List ℕ → List ℕ
line_of text = text ++ 10 ∷ []

abbrev pub refusal_text : Refusal → List ℕ
refusal_text Range = codes "range"
refusal_text Index = codes "index"
refusal_text Amount = codes "amount"
refusal_text Source = codes "source"
refusal_text Dest = codes "dest"
refusal_text Right = codes "right"
refusal_text Length = codes "length"
refusal_text Width = codes "width"

abbrev pub order_text : Ordering → List ℕ
order_text Less = codes "less"
order_text Equal = codes "equal"
order_text Greater = codes "greater"

abbrev pub bit_text : Bool → List ℕ
bit_text false = codes "0"
bit_text true = codes "1"

abbrev pub index_text : Option ℕ → List ℕ
index_text None = codes "none"
index_text (Some index) = decimal index

-- the line of a reply
abbrev pub reply_text : Reply → List ℕ
reply_text reply.Done = line_of (codes "done")
reply_text (reply.Bit bit) = line_of (codes "bit " ++ bit_text bit)
reply_text (reply.Count count) = line_of (codes "count " ++ decimal count)
reply_text (reply.Index index) = line_of (codes "index " ++ index_text index)
reply_text (reply.Order order) = line_of (codes "order " ++ order_text order)
reply_text (reply.Number number) = line_of (codes "number " ++ decimal number)
reply_text (reply.Refused refusal) = line_of (codes "refused " ++ refusal_text refusal)

-- the upper case digit of a number below 16
abbrev pub digit_code : ℕ → ℕ
digit_code value = if nat_lt value 10 then 48 + value else 65 + (value - 10)

-- a number's lowest `count` hexadecimal digits from the top, where digit k is `number / 16 ^ k % 16`
unfoldable pub hexadecimal_text : ℕ → ℕ → List ℕ
hexadecimal_text zero number = []
hexadecimal_text (suc k) number = digit_code (number / 16 ^ k % 16) ∷ hexadecimal_text k number

-- an element of `bits` bits, all of its digits
abbrev pub element_text : ℕ → ℕ → List ℕ
element_text bits number = hexadecimal_text (bits / 4) number

-- an element after another one
abbrev pub next_text : ℕ → ℕ → List ℕ
next_text bits number = codes "," ++ element_text bits number

-- the elements of a memory, in the arguments' notation
abbrev pub elements_text : ℕ → List ℕ → List ℕ
elements_text bits [] = codes "-"
elements_text bits (first ∷ following) = element_text bits first ++ flat_map (next_text bits) following

abbrev pub memory_text : ℕ → List ℕ → List ℕ
memory_text bits numbers = line_of (codes "= " ++ elements_text bits numbers)

-- the replies of a run in their order, and the memory that it left
abbrev pub run_text : ℕ → List Reply → List ℕ → List ℕ
run_text bits replies numbers = flat_map reply_text replies ++ memory_text bits numbers
