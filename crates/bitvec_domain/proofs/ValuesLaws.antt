-- What runs of a walk over a domain's values give.
use Rattle.std.proofs.iter.Rest.{run_of_first_by, run_of_last_by}
use Rattle.bitvec_store.specs.declared.store.BitStore.{Ghosts as Store}
use Rattle.bitvec_base.specs.declared.order.BitOrder.{Ghosts as Order}
use Rattle.bitvec_domain.specs.Values.{YieldsValues, values_left}
use Rattle.bitvec_domain.specs.declared.values.DomainValues.{DomainValues}

module _ {T O : Type 0} {t : Store T} {o : Order O} where
  pub values_yielded : (it : DomainValues T O t o) → YieldsValues it
  values_yielded it = record { front = λ p _. (run_of_first_by t.value values_left p).1; back = λ p _. (run_of_last_by t.value values_left p).1 }
