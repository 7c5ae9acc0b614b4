use Rattle.std.specs.Prelude.{false, true}
use Rattle.bitvec_closures.proofs.SplitCallsLaws.{edits-unlimited}
use Rattle.bitvec_closures.proofs.edit_splits.EditSplits.for_each_rsplit_mut.Goals as goal

pub returns : goal.returns
returns g c = edits-unlimited g.P.FnMut false true c.for_each_piece_of.ensures
