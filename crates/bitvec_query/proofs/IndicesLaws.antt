-- Runs of calls give what is left.
use Rattle.std.specs.Prelude.{length}
use Rattle.std.specs.Iterator.{YieldsFirst, YieldsLast}
use Rattle.std.specs.Iterator.Runs.{YieldsInOrder, YieldsInReverse}
use Rattle.std.proofs.Common.{ap}
use Rattle.std.proofs.iter.runs.Sources.{as_is, as_is_back, from_back, from_front}
use Rattle.bitvec_store.specs.declared.store.BitStore.{Ghosts as Store}
use Rattle.bitvec_base.specs.declared.order.BitOrder.{Ghosts as Order}
use Rattle.bitvec_query.specs.declared.wanted.Wanted.{Ghosts as Bits}
use Rattle.bitvec_query.specs.Indices.{remaining_indices}

module _ {T O W : Type 0} {t : Store T} {o : Order O} {w : Bits W} where
  pub runs_in_order : YieldsInOrder (YieldsFirst (remaining_indices {T = T} {O = O} {W = W} {t = t} {o = o} {w = w})) remaining_indices
  runs_in_order p seen = as_is p (remaining_indices p.from) (from_front (YieldsFirst remaining_indices) (λ index. index) remaining_indices (λ s t h. ap length h.0) (λ s index t h. h) p seen)

  pub runs_in_reverse : YieldsInReverse (YieldsLast (remaining_indices {T = T} {O = O} {W = W} {t = t} {o = o} {w = w})) remaining_indices
  runs_in_reverse p seen = as_is_back p (remaining_indices p.from) (from_back (YieldsLast remaining_indices) (λ index. index) remaining_indices (λ s t h. ap length h.0) (λ s index t h. h) p seen)
