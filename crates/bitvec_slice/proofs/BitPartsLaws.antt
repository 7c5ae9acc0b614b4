-- What runs of a walk over a bit domain's parts give.
use Rattle.std.proofs.iter.Rest.{run_of_first, run_of_last}
use Rattle.bitvec_slice.specs.BitParts.{YieldsParts, parts_left}
use Rattle.bitvec_slice.specs.declared.bit_parts.BitDomainParts.{BitDomainParts}

module _ {V : Type 0} where
  pub parts_yielded : (it : BitDomainParts V) → YieldsParts it
  parts_yielded it = record { front = λ p _. (run_of_first parts_left p).1; back = λ p _. (run_of_last parts_left p).1 }
