-- Tables of fields: tests that compute where the fields are literals.
use Rattle.std.specs.Prelude.{ℕ, ◌+◌, ◌&&◌, ◌||◌, Bool, true, List, [], ◌∷◌, nat_le}
use Rattle.std.specs.List.{list_all}
use Rattle.bitvec.specs.Types.{Window}

-- `is_field bits field` tests whether a field has from 1 to 128 bits, and lies in the record's `bits` bits.
abbrev pub is_field : ℕ → Window → Bool
is_field bits field = nat_le 1 field.len && (nat_le field.len 128 && nat_le (field.start + field.len) bits)

-- `are_apart x y` tests whether one of two fields ends before the other begins.
abbrev pub are_apart : Window → Window → Bool
are_apart x y = nat_le (x.start + x.len) y.start || nat_le (y.start + y.len) x.start

-- `is_table bits fields` tests whether fields are a layout of `bits` bits.
abbrev pub is_table : ℕ → List Window → Bool
is_table bits [] = true
is_table bits (field ∷ fields) = is_field bits field && (list_all (are_apart field) fields && is_table bits fields)
