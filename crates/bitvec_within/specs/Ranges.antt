-- Two ranges of a memory's bits.
use Rattle.std.specs.Prelude.{◌≡◌, ℕ, ◌+◌, ◌-◌, ◌*◌, ◌≤◌, Bool, true, false, List, ◌++◌, length}
use Rattle.bitvec_base.specs.Memory.{FitsMaxBits, memory_bits}
use Rattle.bitvec_words.specs.Operator.{operator}
use Rattle.bitvec_words.specs.declared.operator.BitOp.{BitOp}
use Rattle.bitvec_within.specs.Combined.{combined_within}
use Rattle.bitvec_within.specs.declared.combining_within.Ranges.{Ranges}

-- Both ranges lie in the memory, which has at most `max_bits` bits.
pub record HasRanges (b : ℕ) (xs : List ℕ) (r : Ranges) : Type 0 where
  pub fits : FitsMaxBits b xs
  pub source : r.from + r.len ≤ b * length xs
  pub target : r.to + r.len ≤ b * length xs

-- The ranges lie apart: the range written lies behind the one read where the flag holds, and else before it.
abbrev pub LieInOrder : Bool → Ranges → Type 0
LieInOrder true r = r.from + r.len ≤ r.to
LieInOrder false r = r.to + r.len ≤ r.from

-- a list cut in two, of which `right` is the first part where `left` is later
abbrev pub joined_sides : {X : Type 0} → Bool → List X → List X → List X
joined_sides true left right = right ++ left
joined_sides false left right = left ++ right

-- the first part has n values
abbrev pub AreSides : {X : Type 0} → Bool → ℕ → List X → List X → List X → Type 0
AreSides true n list left right = (list ≡ right ++ left) × (length right ≡ n)
AreSides false n list left right = (list ≡ left ++ right) × (length left ≡ n)

-- The list with the bits of the range written combined by the operator with those of the range read.
abbrev pub combined_ranges : BitOp → Ranges → List Bool → List Bool
combined_ranges op r list = combined_within (operator op) r.from (r.from + r.len) r.to list

-- The new memory is the old one, as long, with the range written combined by the operator with the range read.
pub record CombinesRanges (b : ℕ) (at : ℕ → ℕ → ℕ) (old new : List ℕ) (r : Ranges) (op : BitOp) : Type 0 where
  pub bits : memory_bits b at new ≡ combined_ranges op r (memory_bits b at old)
  pub elements : length new ≡ length old

-- The ranges of the first `n` bits of both.
abbrev pub first_of : Ranges → ℕ → Ranges
first_of r n = record r { len = n }

-- The ranges of the bits behind the first `n` of both.
abbrev pub rest_of : Ranges → ℕ → Ranges
rest_of r n = record { from = r.from + n; to = r.to + n; len = r.len - n }
