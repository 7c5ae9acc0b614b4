-- The commands by what they work on, and what each needs of it.
use Rattle.std.specs.Prelude.{◌≡◌, ℕ, ◌<◌, ◌≤◌, ⊤}
use Rattle.bitvec_base.specs.Lists.{FitsWithin}
use Rattle.bitvec_base.specs.Window.{IsWithin}
use Rattle.bitvec_commands.specs.declared.command.Op.{Op}
use Rattle.bitvec_commands.specs.declared.command.Op.TheVariants.{Get, Set, Replace, Swap, Fill, Invert, Reverse, ShiftStart, ShiftEnd, RotateLeft, RotateRight, CopyWithin, CopyFrom, And, Or, Xor, Eq, Cmp, StartsWith, EndsWith, Contains}

-- it asks about its list, edits the bits of it where they stand, or moves them; or it edits its list by the right one, or
-- compares the two
pub data Group : Type 0 where
  Query : Group
  Edit : Group
  Move : Group
  Combine : Group
  Compare : Group

-- The group of a command.
abbrev pub group : Op → Group
group (Set i bit) = Edit
group (Replace i bit) = Edit
group (Swap i j) = Edit
group (Fill bit) = Edit
group Invert = Edit
group Reverse = Move
group (ShiftStart k) = Move
group (ShiftEnd k) = Move
group (RotateLeft k) = Move
group (RotateRight k) = Move
group (CopyWithin from to dest) = Move
group (CopyFrom window) = Combine
group (And window) = Combine
group (Or window) = Combine
group (Xor window) = Combine
group (Eq window) = Compare
group (Cmp window) = Compare
group (StartsWith window) = Compare
group (EndsWith window) = Compare
group (Contains window) = Compare
group _ = Query

-- it is a Boolean operator
abbrev pub IsOperator : Op → Type 0
IsOperator (And window) = ⊤
IsOperator (Or window) = ⊤
IsOperator (Xor window) = ⊤
IsOperator _ = ⊥

-- what a command that isn't refused names in its list of m bits is there
abbrev pub FitsList : ℕ → Op → Type 0
FitsList m (Get i) = i < m
FitsList m (Set i bit) = i < m
FitsList m (Replace i bit) = i < m
FitsList m (Swap i j) = (i < m) × (j < m)
FitsList m (ShiftStart k) = k ≤ m
FitsList m (ShiftEnd k) = k ≤ m
FitsList m (RotateLeft k) = k ≤ m
FitsList m (RotateRight k) = k ≤ m
FitsList m (CopyWithin from to dest) = FitsWithin from to dest m
FitsList m (CopyFrom window) = window.len ≡ m
FitsList m _ = ⊤

-- and so is what it names in a right list of n bits
abbrev pub FitsRight : ℕ → Op → Type 0
FitsRight n (CopyFrom window) = IsWithin window n
FitsRight n (And window) = IsWithin window n
FitsRight n (Or window) = IsWithin window n
FitsRight n (Xor window) = IsWithin window n
FitsRight n (Eq window) = IsWithin window n
FitsRight n (Cmp window) = IsWithin window n
FitsRight n (StartsWith window) = IsWithin window n
FitsRight n (EndsWith window) = IsWithin window n
FitsRight n (Contains window) = IsWithin window n
FitsRight n _ = ⊤
