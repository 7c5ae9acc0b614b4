use Rattle.bitvec.specs.WordRunsLaws.{move-steps}
use Rattle.bitvec_array_examples.proofs.word_runs.copy_within.Goals as goal

pub returns : goal.returns
returns g c = move-steps g.C.CellsRead _ _ _ _ _ _ _ _ _ _ _ _ c.args.range.start c.args.range.end c.args.dest g.met.C.Elem.BitStore.width_law (rw g.met.O.ByWords.words_law at c.in_ok-replies.ensures.runs)
