-- What a call writes of a reply.
use Rattle.std.specs.Prelude.{ℕ, ℤ, pos, negsuc, Bool, false, Option, None}
use Rattle.std.specs.declared.cmp.Ordering.{Ordering}
use Rattle.std.specs.declared.cmp.Ordering.TheVariants.{Less, Equal, Greater}
use Rattle.bitvec_commands.specs.declared.command.Reply.{Reply}
use Rattle.bitvec_commands.specs.declared.command.Reply.TheVariants.{Bit, Count, Index, Order}

abbrev pub bit_of : Reply → Bool
bit_of (Bit bit) = bit
bit_of _ = false

abbrev pub count_of : Reply → ℕ
count_of (Count count) = count
count_of _ = 0

abbrev pub index_of : Reply → Option ℕ
index_of (Index index) = index
index_of _ = None

-- -1, 0 or 1
abbrev pub order_number : Ordering → ℤ
order_number Less = negsuc 0
order_number Equal = pos 0
order_number Greater = pos 1

abbrev pub order_of : Reply → ℤ
order_of (Order order) = order_number order
order_of _ = pos 0
