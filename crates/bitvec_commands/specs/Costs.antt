-- The loads and stores that a command may take.
use Rattle.std.specs.Prelude.{ℕ, Bool, ◌+◌, min}
use Rattle.bitvec_base.specs.declared.window.Window.{Window}
use Rattle.bitvec_cells.specs.Cost.{touched_count, fill_loads, read_loads, write_loads, write_stores, edit_loads, reverse_loads, reverse_stores, rotate_loads, rotate_stores, equal_loads, needle_loads}

-- loads and stores of the memory, and loads of the right memory
pub record Cost : Type 0 where
  pub loads : ℕ
  pub stores : ℕ
  pub right_loads : ℕ

-- where a list stands in its memory: on elements of so many bits, under an order that works by words or not, from this place on
pub record Place : Type 0 where
  pub bits : ℕ
  pub words : Bool
  pub start : ℕ

-- The place of a window in a memory of `b`-bit elements.
abbrev pub place_of : ℕ → Bool → Window → Place
place_of b words window = record { bits = b; words = words; start = window.start }

-- the list without its first n bits
abbrev pub place_after : ℕ → Place → Place
place_after n place = record { bits = place.bits; words = place.words; start = place.start + n }

-- so many loads and stores of the memory
abbrev pub accesses : ℕ → ℕ → Place → Cost
accesses loads stores place = record { loads = loads; stores = stores; right_loads = 0 }

-- so many loads of either memory
abbrev pub both_read : (Place → ℕ) → Place → Cost
both_read loads place = record { loads = loads place; stores = 0; right_loads = loads place }

-- ---- work on the m bits of the list

-- The cost of reading `m` bits: one load of each element that they touch.
abbrev pub scan_cost : ℕ → Place → Cost
scan_cost m place = accesses (touched_count place.bits place.start m) 0 place

-- The cost of writing `m` bits whatever they were: the loads of a fill, and one store of each element that they touch.
abbrev pub fill_cost : ℕ → Place → Cost
fill_cost m place = accesses (fill_loads m) (touched_count place.bits place.start m) place

-- The cost of inverting `m` bits: one load and one store of each element that they touch.
abbrev pub invert_cost : ℕ → Place → Cost
invert_cost m place = accesses (touched_count place.bits place.start m) (touched_count place.bits place.start m) place

-- The cost of reversing `m` bits.
abbrev pub reverse_cost : ℕ → Place → Cost
reverse_cost m place = accesses (reverse_loads place.bits place.words m) (reverse_stores place.bits place.words m) place

-- The cost of moving the first `k` of `m` bits behind the others.
abbrev pub rotate_cost : ℕ → ℕ → Place → Cost
rotate_cost k m place = accesses (rotate_loads place.bits place.words k m) (rotate_stores place.bits place.words k m) place

-- m bits copied to another place of the list
abbrev pub move_cost : ℕ → Place → Cost
move_cost m place = accesses (edit_loads place.bits place.words m) (write_stores place.bits place.words m) place

-- The cost of two pieces of work, one after the other.
abbrev pub and_then : (Place → Cost) → (Place → Cost) → Place → Cost
and_then first second place = record {
  loads = (first place).loads + (second place).loads;
  stores = (first place).stores + (second place).stores;
  right_loads = (first place).right_loads + (second place).right_loads;
}

-- The cost of work on the list from its place `n` on.
abbrev pub behind : ℕ → (Place → Cost) → Place → Cost
behind n cost place = cost (place_after n place)

-- ---- with a right list

-- The cost of copying `m` bits of the right list over the list.
abbrev pub copy_cost : ℕ → Place → Cost
copy_cost m place = record {
  loads = write_loads place.bits place.words m;
  stores = write_stores place.bits place.words m;
  right_loads = read_loads place.bits place.words m;
}

-- The cost of combining the list with `m` bits of the right list by an operator.
abbrev pub operator_cost : ℕ → Place → Cost
operator_cost m place = record {
  loads = edit_loads place.bits place.words m;
  stores = write_stores place.bits place.words m;
  right_loads = read_loads place.bits place.words m;
}

-- The cost of comparing `m` bits with `r` bits of the right list for equality.
abbrev pub equal_cost : ℕ → ℕ → Place → Cost
equal_cost m r = both_read (λ place. equal_loads place.bits place.words m r)

-- The cost of ordering `m` bits and `r` bits of the right list: a load of each for each bit of the shorter.
abbrev pub order_cost : ℕ → ℕ → Place → Cost
order_cost m r = both_read (λ place. min m r)

-- The cost of seeking `r` bits of the right list in `m` bits at `k` places.
abbrev pub needle_cost : ℕ → ℕ → ℕ → Place → Cost
needle_cost m r k = both_read (λ place. needle_loads place.bits place.words m r k)
