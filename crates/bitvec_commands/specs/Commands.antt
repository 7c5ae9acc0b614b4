-- What each command means on plain lists of truth values, and what it may cost.
--
-- `right` is the right list, and `list` that of a step's sub-range, of m bits. A condition on sums is of whole numbers of any
-- size. A right window counts as the list `window_of right window`.
use Rattle.std.specs.Prelude.{ℕ, Bool, true, false, not, ◌+◌, ◌-◌, ◌==◌, ◌&&◌, ◌||◌, nat_lt, nat_le, Option, None, List, length, map, replicate, reverse, swap, count_by, slice_index_or, slice_set}
use Rattle.std.specs.Ordering.{bool_cmp}
use Rattle.std.specs.Cmp.Lexicographic.{slice_cmp}
use Rattle.std.specs.List.{list_any, list_all}
use Rattle.bitvec_base.specs.declared.window.Window.{Window}
use Rattle.bitvec_base.specs.Window.{window_of}
use Rattle.bitvec_base.specs.Lists.{same_bits, is_prefix, is_suffix, stands_in, combined, differs, first_place, last_place, rotated_left, rotated_right, shifted_start, shifted_end, copied_within}
use Rattle.bitvec_commands.specs.declared.command.Op.{Op}
use Rattle.bitvec_commands.specs.declared.command.Op.TheVariants.{Get, Set, Replace, Swap, Fill, Invert, Reverse, ShiftStart, ShiftEnd, RotateLeft, RotateRight, CopyWithin, CopyFrom, And, Or, Xor, Eq, Cmp, StartsWith, EndsWith, Contains, CountOnes, CountZeros, FirstOne, FirstZero, LastOne, LastZero, Any, All}
use Rattle.bitvec_commands.specs.declared.command.Refusal.{Refusal}
use Rattle.bitvec_commands.specs.declared.command.Reply.{Reply}
use Rattle.bitvec_commands.specs.declared.command.Reply.TheVariants.{Bit, Count, Order}
use Rattle.bitvec_commands.specs.Costs.{accesses, and_then, behind, scan_cost, fill_cost, invert_cost, reverse_cost, rotate_cost, move_cost, copy_cost, operator_cost, equal_cost, order_cost, needle_cost}
use Rattle.bitvec_commands.specs.Rows.{CommandRow, asks, edits, both, unless, or_else, range_lies, lies_in}

-- ---- the conditions that commands share

-- A command is refused where its index isn't below `m`.
abbrev pub index_refusal : ℕ → ℕ → Option Refusal
index_refusal m i = unless (nat_lt i m) Refusal.Index

-- A command is refused where its amount is more than `m`.
abbrev pub amount_refusal : ℕ → ℕ → Option Refusal
amount_refusal m k = unless (nat_le k m) Refusal.Amount

-- A command is refused where its window doesn't lie in the right list.
abbrev pub right_refusal : List Bool → Window → Option Refusal
right_refusal right window = unless (lies_in window (length right)) Refusal.Right

-- ---- the commands
-- What a command means on a list of `m` bits: its refusal, its cost, its reply and the list that it leaves.
abbrev pub op_row : List Bool → ℕ → Op → CommandRow
op_row right m (Get i) = asks (index_refusal m i) (λ list. Bit (slice_index_or list i false)) (accesses 1 0)
op_row right m (Set i bit) = edits (index_refusal m i) (λ list. slice_set list i bit) (accesses 1 1)
op_row right m (Replace i bit) =
    both (index_refusal m i) (λ list. Bit (slice_index_or list i false)) (λ list. slice_set list i bit) (accesses 2 1)
op_row right m (Swap i j) = edits (unless (nat_lt i m && nat_lt j m) Refusal.Index) (λ list. swap list i j) (accesses 4 2)
op_row right m (Fill bit) = edits None (λ list. replicate m bit) (fill_cost m)
op_row right m Invert = edits None (map not) (invert_cost m)
op_row right m Reverse = edits None reverse (reverse_cost m)
op_row right m (ShiftStart k) = edits (amount_refusal m k) (shifted_start k) (and_then (move_cost (m - k)) (behind (m - k) (fill_cost k)))
op_row right m (ShiftEnd k) = edits (amount_refusal m k) (shifted_end k) (and_then (move_cost (m - k)) (fill_cost k))
op_row right m (RotateLeft k) = edits (amount_refusal m k) (rotated_left k) (rotate_cost k m)
op_row right m (RotateRight k) = edits (amount_refusal m k) (rotated_right k) (rotate_cost (m - k) m)
op_row right m (CopyWithin from to dest) =
    edits (or_else (unless (range_lies m from to) Refusal.Source) (unless (nat_le (dest + (to - from)) m) Refusal.Dest))
    (copied_within from to dest) (move_cost (to - from))
op_row right m (CopyFrom window) =
    edits (or_else (right_refusal right window) (unless (window.len == m) Refusal.Length)) (λ list. window_of right window) (copy_cost m)
op_row right m (And window) = edits (right_refusal right window) (λ list. combined ◌&&◌ list (window_of right window)) (operator_cost m)
op_row right m (Or window) = edits (right_refusal right window) (λ list. combined ◌||◌ list (window_of right window)) (operator_cost m)
op_row right m (Xor window) = edits (right_refusal right window) (λ list. combined differs list (window_of right window)) (operator_cost m)
op_row right m (Eq window) =
    asks (right_refusal right window) (λ list. Bit (same_bits list (window_of right window))) (equal_cost m window.len)
op_row right m (Cmp window) =
    asks (right_refusal right window) (λ list. Order (slice_cmp bool_cmp list (window_of right window))) (order_cost m window.len)
op_row right m (StartsWith window) =
    asks (right_refusal right window) (λ list. Bit (is_prefix (window_of right window) list)) (needle_cost m window.len 1)
op_row right m (EndsWith window) =
    asks (right_refusal right window) (λ list. Bit (is_suffix (window_of right window) list)) (needle_cost m window.len 1)
op_row right m (Contains window) =
    asks (right_refusal right window) (λ list. Bit (stands_in (window_of right window) list)) (needle_cost m window.len (m - window.len + 1))
op_row right m CountOnes = asks None (λ list. Count (count_by (λ bit. bit) list)) (scan_cost m)
op_row right m CountZeros = asks None (λ list. Count (count_by not list)) (scan_cost m)
op_row right m FirstOne = asks None (λ list. Reply.Index (first_place true list)) (scan_cost m)
op_row right m FirstZero = asks None (λ list. Reply.Index (first_place false list)) (scan_cost m)
op_row right m LastOne = asks None (λ list. Reply.Index (last_place true list)) (scan_cost m)
op_row right m LastZero = asks None (λ list. Reply.Index (last_place false list)) (scan_cost m)
op_row right m Any = asks None (λ list. Bit (list_any (λ bit. bit) list)) (scan_cost m)
op_row right m All = asks None (λ list. Bit (list_all (λ bit. bit) list)) (scan_cost m)

-- Why a command on a list of `m` bits is refused, if it is.
abbrev pub op_refusal : List Bool → ℕ → Op → Option Refusal
op_refusal right m op = (op_row right m op).refusal
