use Rattle.bitvec_slice.specs.WalkLaws.{refs_yielded}
use Rattle.bitvec_slice.proofs.iter.Iter.by_refs.Goals as goal

pub returns-clause-runs : goal.returns-clause-runs
returns-clause-runs g c = refs_yielded _
