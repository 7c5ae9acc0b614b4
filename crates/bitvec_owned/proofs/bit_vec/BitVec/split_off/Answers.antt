use Rattle.std.proofs.Common.{Bool, List, arith, subst}
use Rattle.bitvec_base.specs.SliceLaws.{range-to_end}
use Rattle.bitvec_owned.specs.Copies.{Holds}
use Rattle.bitvec_owned.specs.Owned.{owned}
use Rattle.bitvec_owned.proofs.bit_vec.BitVec.split_off.Goals as goal

pub returns-clause-rest : goal.returns-clause-rest
returns-clause-rest g c =
    subst (λ (l : List Bool). Holds g.T.BitStore.BITS l 0 (owned c.in_ok-rest.rest)) (range-to_end (owned c.args.self.now).bits c.args.at c.len.result (omega arith)) c.in_ok-rest.ensures.copy
