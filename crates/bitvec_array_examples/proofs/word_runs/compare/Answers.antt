use Rattle.bitvec.specs.WordRunsLaws.{equal-right_steps, equal-steps}
use Rattle.bitvec_array_examples.proofs.word_runs.compare.Goals as goal

pub returns-clause-cost : goal.returns-clause-cost
returns-clause-cost g c = equal-steps g.C.CellsRead g.D.CellsRead _ _ _ _ _ _ _ _ _ _ _ c.args.source g.met.C.Elem.BitStore.width_law (rw g.met.O.ByWords.words_law at c.in_ok-replies.ensures.runs)

pub returns-clause-right : goal.returns-clause-right
returns-clause-right g c = equal-right_steps g.C.CellsRead g.D.CellsRead _ _ _ _ _ _ _ _ _ _ _ c.args.source g.met.C.Elem.BitStore.width_law (rw g.met.O.ByWords.words_law at c.in_ok-replies.ensures.runs)
