-- The commands, a row each: its word, and its arguments.
use Rattle.std.specs.Prelude.{ℕ, if◌then◌else◌, List, Option, Some, None, codes}
use Rattle.std.specs.Option.{option_map}
use Rattle.std.specs.Str.{bytes_eq}
use Rattle.bitvec_base.specs.declared.window.Window.{Window}
use Rattle.bitvec_commands.specs.declared.command.Op.{Op}
use Rattle.bitvec_commands.specs.declared.command.Op.TheVariants as op
use Rattle.bitdo_work.specs.Words.{◌>>=◌, no_argument, one_number, one_bit, number_and_bit, two_numbers, three_numbers, one_window}

-- one by its word alone
abbrev pub bare_op_of : List ℕ → Option Op
bare_op_of word =
    if bytes_eq word (codes "invert") then Some op.Invert
    else if bytes_eq word (codes "reverse") then Some op.Reverse
    else if bytes_eq word (codes "count_ones") then Some op.CountOnes
    else if bytes_eq word (codes "count_zeros") then Some op.CountZeros
    else if bytes_eq word (codes "first_one") then Some op.FirstOne
    else if bytes_eq word (codes "first_zero") then Some op.FirstZero
    else if bytes_eq word (codes "last_one") then Some op.LastOne
    else if bytes_eq word (codes "last_zero") then Some op.LastZero
    else if bytes_eq word (codes "any") then Some op.Any
    else if bytes_eq word (codes "all") then Some op.All
    else None

-- one with a right window
abbrev pub right_op_of : List ℕ → Window → Option Op
right_op_of word right =
    if bytes_eq word (codes "copy_from") then Some (op.CopyFrom right)
    else if bytes_eq word (codes "and") then Some (op.And right)
    else if bytes_eq word (codes "or") then Some (op.Or right)
    else if bytes_eq word (codes "xor") then Some (op.Xor right)
    else if bytes_eq word (codes "eq") then Some (op.Eq right)
    else if bytes_eq word (codes "cmp") then Some (op.Cmp right)
    else if bytes_eq word (codes "starts_with") then Some (op.StartsWith right)
    else if bytes_eq word (codes "ends_with") then Some (op.EndsWith right)
    else if bytes_eq word (codes "contains") then Some (op.Contains right)
    else None

-- the command of a word and its arguments
unfoldable pub op_of : List ℕ → List (List ℕ) → Option Op
op_of word arguments =
    if bytes_eq word (codes "get") then option_map op.Get (one_number arguments)
    else if bytes_eq word (codes "set") then option_map (λ given. op.Set given.0 given.1) (number_and_bit arguments)
    else if bytes_eq word (codes "replace") then option_map (λ given. op.Replace given.0 given.1) (number_and_bit arguments)
    else if bytes_eq word (codes "swap") then option_map (λ given. op.Swap given.0 given.1) (two_numbers arguments)
    else if bytes_eq word (codes "fill") then option_map op.Fill (one_bit arguments)
    else if bytes_eq word (codes "shift_start") then option_map op.ShiftStart (one_number arguments)
    else if bytes_eq word (codes "shift_end") then option_map op.ShiftEnd (one_number arguments)
    else if bytes_eq word (codes "rotate_left") then option_map op.RotateLeft (one_number arguments)
    else if bytes_eq word (codes "rotate_right") then option_map op.RotateRight (one_number arguments)
    else if bytes_eq word (codes "copy_within") then option_map (λ given. op.CopyWithin given.0 given.1 given.2) (three_numbers arguments)
    else if no_argument arguments then bare_op_of word
    else one_window arguments >>= right_op_of word
