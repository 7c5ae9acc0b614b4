use Rattle.std.proofs.Common.{◌≡◌, ◌*◌, ◌≤◌, ℕ}
use Rattle.std.specs.Coded.{le_prop}
use Rattle.bitvec_base.specs.Window.{max_bits}
use Rattle.bitvec_base.specs.declared.order.BitOrder.{Ghosts as Order}
use Rattle.bitvec_store.specs.declared.store.BitStore.{Ghosts as Store}
use Rattle.bitvec_owned.specs.declared.array.BitArray.{BitArray}
use Rattle.bitvec_owned.proofs.array.BitArrayClone.clone.Goals as goal

-- an array's fact has one proof
copied : {T O : Type 0} {N : ℕ} {t : Store T} {o : Order O} (a : BitArray T O N t o) (bounded : t.BITS * N ≤ max_bits)
    → ◌≡◌ {A = BitArray T O N t o} record { elements = a.elements; order = record {}; bounded = bounded } a
copied a bounded = λ i. record { elements = a.elements; order = a.order; bounded = le_prop bounded a.bounded i }

pub returns : goal.returns
returns g c = record { cases = copied c.args.self.now _ }
