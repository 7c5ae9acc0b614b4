use Rattle.bitvec_slice.specs.WalkLaws.{vals_yielded}
use Rattle.bitvec_slice.proofs.iter.Iter.by_vals.Goals as goal

pub returns-clause-runs : goal.returns-clause-runs
returns-clause-runs g c = vals_yielded _
