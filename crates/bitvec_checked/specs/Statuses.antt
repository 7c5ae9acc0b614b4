-- By which number a call says whether it was carried out, or why it was not.
--
-- `order` is the number of an order; `xs` is the memory of b-bit elements that a call is about, and `ys` the right one.
use Rattle.std.specs.Prelude.{ℕ, zero, suc, ◌*◌, ◌==◌, false, ◌&&◌, nat_le, if◌then◌else◌, Option, Some, None, List, [], length, replicate}
use Rattle.std.specs.Int.{div_ceil}
use Rattle.bitvec_base.specs.declared.window.Window.{Window}
use Rattle.bitvec_base.specs.Window.{max_bits}
use Rattle.bitvec_commands.specs.declared.command.Op.{Op}
use Rattle.bitvec_commands.specs.declared.command.Refusal.{Refusal}
use Rattle.bitvec_commands.specs.declared.command.Refusal.TheVariants.{Range, Index, Amount, Source, Dest, Right, Length, Width}
use Rattle.bitvec_commands.specs.Commands.{op_refusal}
use Rattle.bitvec_commands.specs.Rows.{lies_in, unless}

-- so many bits from this one on
abbrev pub bits_from : ℕ → ℕ → Window
bits_from start len = record { start = start; len = len }

-- ---- refusals

abbrev pub refusal_number : Refusal → ℕ
refusal_number Range = 1
refusal_number Index = 2
refusal_number Amount = 3
refusal_number Source = 4
refusal_number Dest = 5
refusal_number Right = 6
refusal_number Length = 7
refusal_number Width = 8

-- 0 where nothing is refused
abbrev pub refusal_status : Option Refusal → ℕ
refusal_status None = 0
refusal_status (Some refusal) = refusal_number refusal

-- the first of two that isn't 0
abbrev pub or_next : ℕ → ℕ → ℕ
or_next zero next = next
or_next (suc status) next = suc status

-- ---- what every call tests: that there is such an order, the size of each memory, and the window

abbrev pub window_status : ℕ → ℕ → List ℕ → Window → ℕ
window_status order b xs window =
    if nat_le order 1 then (if nat_le (b * length xs) max_bits then refusal_status (unless (lies_in window (b * length xs)) Range) else 10) else 9

abbrev pub memories_status : ℕ → ℕ → List ℕ → Window → List ℕ → ℕ
memories_status order b xs window ys =
    if nat_le order 1 then (if nat_le (b * length xs) max_bits && nat_le (b * length ys) max_bits then refusal_status (unless (lies_in window (b * length xs)) Range) else 10) else 9

-- ---- and then the command's own conditions

abbrev pub status_of : ℕ → ℕ → List ℕ → Window → Op → ℕ
status_of order b xs window op = or_next (window_status order b xs window) (refusal_status (op_refusal [] window.len op))

-- a refusal depends on the length of the right list alone
abbrev pub status_beside : ℕ → ℕ → List ℕ → Window → List ℕ → Op → ℕ
status_beside order b xs window ys op = or_next (memories_status order b xs window ys) (refusal_status (op_refusal (replicate (b * length ys) false) window.len op))

-- a number has from 1 to 64 bits
abbrev pub width_status : ℕ → ℕ
width_status len = refusal_status (unless (nat_le 1 len && nat_le len 64) Width)

-- a walk of a window begins at one of its indices, or at its end
abbrev pub end_status : ℕ → ℕ → ℕ
end_status from len = refusal_status (unless (nat_le from len) Index)

-- a step isn't 0, and each of two goes through windows of n and m bits as often
abbrev pub step_status : ℕ → ℕ
step_status step = if step == 0 then 14 else 0

abbrev pub steps_status : ℕ → ℕ → ℕ → ℕ → ℕ
steps_status step n right_step m =
    or_next (step_status step) (or_next (step_status right_step) (refusal_status (unless (div_ceil n step == div_ceil m right_step) Length)))
