-- What contracts see of the accessors of slices.
use Rattle.std.specs.Prelude.{ℕ, List, map}
use Rattle.bitvec_cells.specs.declared.shared.Shared.{Shared}
use Rattle.bitvec_cells.specs.declared.exclusive.Exclusive.{Exclusive}

-- The numbers of the elements behind a shared accessor, where `value` gives an element's number.
abbrev pub shared_numbers : {T : Type 0} → (T → ℕ) → Shared T → List ℕ
shared_numbers value accessor = map value accessor.cells.now

-- A shared accessor borrows nothing for writing, which contracts see as 0.
abbrev pub shared_borrow : {T : Type 0} → Shared T → ℕ
shared_borrow accessor = 0

-- The number of loads of elements that a shared accessor has made so far.
abbrev pub shared_loads : {T : Type 0} → Shared T → ℕ
shared_loads accessor = accessor.counts.loads

-- The number of stores of elements that a shared accessor has made so far.
abbrev pub shared_stores : {T : Type 0} → Shared T → ℕ
shared_stores accessor = accessor.counts.stores

-- The numbers of the elements behind an exclusive accessor, where `value` gives an element's number.
abbrev pub exclusive_numbers : {T : Type 0} → (T → ℕ) → Exclusive T → List ℕ
exclusive_numbers value accessor = map value accessor.cells.now

-- The name, among borrows, of the slice's borrow that an exclusive accessor holds.
abbrev pub exclusive_borrow : {T : Type 0} → Exclusive T → ℕ
exclusive_borrow accessor = accessor.cells.ghost_name

-- The number of loads of elements that an exclusive accessor has made so far.
abbrev pub exclusive_loads : {T : Type 0} → Exclusive T → ℕ
exclusive_loads accessor = accessor.counts.loads

-- The number of stores of elements that an exclusive accessor has made so far.
abbrev pub exclusive_stores : {T : Type 0} → Exclusive T → ℕ
exclusive_stores accessor = accessor.counts.stores
