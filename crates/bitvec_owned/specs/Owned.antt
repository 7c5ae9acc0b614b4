-- What contracts see of an owned sequence of bits, and how many bits it has memory for.
use Rattle.std.specs.Prelude.{ℕ, ◌-◌, ◌*◌, ◌/◌, min, vec_capacity}
use Rattle.std.specs.Int.{div_ceil}
use Rattle.bitvec_base.specs.Window.{max_bits}
use Rattle.bitvec_base.specs.declared.order.BitOrder.{Ghosts as Order}
use Rattle.bitvec_slice.specs.Seen.{Seen, shown}
use Rattle.bitvec_store.specs.declared.store.BitStore.{Ghosts as Store}
use Rattle.bitvec_owned.specs.declared.bit_vec.BitVec.{BitVec}

-- the bits of n elements of b bits, as far as all of them are at most `max_bits`
abbrev pub usable_bits : ℕ → ℕ → ℕ
usable_bits b n = b * min n (max_bits / b)

-- how many bits an element of b bits has from the place n of a memory on: none where an element begins there
abbrev pub rest_bits : ℕ → ℕ → ℕ
rest_bits b n = b * div_ceil n b - n

module _ {T O A : Type 0} {t : Store T} {o : Order O} where
  -- what a view of all its bits shows
  abbrev pub owned : BitVec T O A t o → Seen T
  owned v = shown t.BITS o.at t.value v.elements.items v.head v.len

  -- the bits of the elements for which it has memory, but for the places before its first bit
  abbrev pub bit_capacity : BitVec T O A t o → ℕ
  bit_capacity v = usable_bits t.BITS (vec_capacity v.elements) - v.head
