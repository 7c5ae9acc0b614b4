-- Lists with the same bits feed a hasher the same.
use Rattle.std.specs.Prelude.{◌≡◌, Bool, true, List}
use Rattle.std.proofs.Common.{ap}
use Rattle.bitvec_base.specs.Lists.{same_bits}
use Rattle.bitvec_base.specs.ListsLaws.{same_bits-decides}
use Rattle.bitvec_domain.specs.Feeding.{bits_fed}

-- Lists with the same bits feed a hasher the same.
pub fed_same : (xs ys : List Bool) → same_bits xs ys ≡ true → bits_fed xs ≡ bits_fed ys
fed_same xs ys same = ap bits_fed ((same_bits-decides xs ys).0 same)
