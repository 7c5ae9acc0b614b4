-- Slots, a bit each.
use Rattle.std.specs.Prelude.{ℕ}
use Rattle.bitvec.specs.Counts.{ones_of}
use Rattle.bitvec.specs.Types.{BitSliceMut, Order, Store}
use Rattle.bitvec.specs.Views.{seen_mut}

module _ {T O : Type 0} {t : Store T} {o : Order O} where
  -- how many are taken
  abbrev pub taken_in : BitSliceMut T O t o → ℕ
  taken_in slots = ones_of (seen_mut slots).bits
