use Rattle.bitvec_engine.specs.WordStepsLaws.{writes-words}
use Rattle.bitvec_engine.proofs.word_steps.block_copy.Goals as goal

pub returns-clause-cost : goal.returns-clause-cost
returns-clause-cost g c = writes-words g.C.CellsRead _ _ _ c.args.to.len g.met.C.Elem.BitStore.width_law (rw g.met.O.ByWords.words_law at c.block_copy.ensures.cost)
