use Rattle.bitvec.specs.WordRunsLaws.{operator-right_steps, operator-steps}
use Rattle.bitvec_array_examples.proofs.word_runs.combine.Goals as goal

pub returns-clause-cost : goal.returns-clause-cost
returns-clause-cost g c = operator-steps g.C.CellsRead g.D.CellsRead _ _ _ _ _ _ _ _ _ _ _ c.args.op c.requires g.met.C.Elem.BitStore.width_law (rw g.met.O.ByWords.words_law at c.in_ok-replies.ensures.runs)

pub returns-clause-right : goal.returns-clause-right
returns-clause-right g c = operator-right_steps g.C.CellsRead g.D.CellsRead _ _ _ _ _ _ _ _ _ _ _ c.args.op c.requires g.met.C.Elem.BitStore.width_law (rw g.met.O.ByWords.words_law at c.in_ok-replies.ensures.runs)
