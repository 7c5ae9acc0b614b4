use Rattle.bitvec_closures.proofs.ToSplitLaws.{takes-beside}
use Rattle.bitvec_closures.proofs.edit_splits.EditSplits.step.Goals as goal

pub returns-clause-takes : goal.returns-clause-takes
returns-clause-takes g c = takes-beside c.args.left.now c.cut_row.result.0 c.cut_row.result.1 _ c.if-left.false c.requires.inside.order c.cut_row.ensures.beside
