use Rattle.std.proofs.Common.{arith}
use Rattle.bitvec_combine.specs.DifferLaws.{equal_enough, equal_enough_right}
use Rattle.bitvec_words.proofs.CostLemmas.{reads-most}
use Rattle.bitvec_combine.proofs.comparing.equal.Goals as goal

pub returns-then-phase-clause-reads : goal.returns-then-phase-clause-reads
returns-then-phase-clause-reads g c = reads-most c.equal_unshifted.ensures.reads (equal_enough _ _ g.met.C.Elem.BitStore.width_law (omega arith))

pub returns-then-phase-clause-right : goal.returns-then-phase-clause-right
returns-then-phase-clause-right g c = reads-most c.equal_unshifted.ensures.right (equal_enough_right _ _ g.met.C.Elem.BitStore.width_law (omega arith))

pub returns-clause-reads : goal.returns-clause-reads
returns-clause-reads g c = reads-most c.equal_in_phases.ensures.reads (equal_enough _ _ g.met.C.Elem.BitStore.width_law (omega arith))

pub returns-clause-right : goal.returns-clause-right
returns-clause-right g c = reads-most c.equal_in_phases.ensures.right (equal_enough_right _ _ g.met.C.Elem.BitStore.width_law (omega arith))
