use Rattle.bitvec_slice.specs.WalkLaws.{bits_yielded}
use Rattle.bitvec_slice.proofs.view.BitSlice.iter.Goals as goal

pub returns-clause-runs : goal.returns-clause-runs
returns-clause-runs g c = bits_yielded _
