-- What contracts see of the tests' accessor.
use Rattle.std.specs.Prelude.{ℕ}
use Rattle.bitvec_test_support.specs.declared.counted.Counted.{Counted}

-- the accessor that it wraps
abbrev pub inner_of : {C : Type 0} → Counted C → C
inner_of counted = counted.inner

-- how many loads it tallied
abbrev pub load_tally : {C : Type 0} → Counted C → ℕ
load_tally counted = counted.loads

-- how many stores it tallied
abbrev pub store_tally : {C : Type 0} → Counted C → ℕ
store_tally counted = counted.stores
