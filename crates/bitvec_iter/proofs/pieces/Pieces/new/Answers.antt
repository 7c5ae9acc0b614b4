use Rattle.std.proofs.Common.{ap, refl, ◌∙◌}
use Rattle.bitvec_iter.proofs.LeftLaws.{few_left, left_all, pieces_yielded}
use Rattle.bitvec_iter.proofs.pieces.Pieces.new.Goals as goal

pub returns-clause-pieces : goal.returns-clause-pieces
returns-clause-pieces g c = left_all _ refl (c.count-count.ensures ∙ ap (g.C.Cutting.pieces c.args.cutting) c.len.ensures.window)

pub returns-clause-bound : goal.returns-clause-bound
returns-clause-bound g c = few_left _ _ c.len.result (c.count-count.ensures) (g.met.C.Cutting.few c.args.cutting c.len.result) c.len.ensures.bound

pub returns-clause-runs : goal.returns-clause-runs
returns-clause-runs g c = pieces_yielded _
