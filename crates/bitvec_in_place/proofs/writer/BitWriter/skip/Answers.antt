use Rattle.std.proofs.Common.{arith, refl}
use Rattle.bitvec_in_place.proofs.Cursors.{enough, fewer}
use Rattle.bitvec_in_place.proofs.writer.BitWriter.skip.Goals as goal

pub returns-then-width-remaining-clause-answer : goal.returns-then-width-remaining-clause-answer
returns-then-width-remaining-clause-answer g c = record { accepted = fewer _ _ _ _ c.remaining.ensures.left c.if-width-remaining.true; refused = refl }

pub overflow_add-self : goal.overflow_add-self
overflow_add-self g c = let limited = c.args.self.now.limited in let bounded = c.args.self.now.bounded in omega arith

pub invariant_of-self : goal.invariant_of-self
invariant_of-self g c = record { bounded = c.args.self.now.bounded; limited = c.args.self.now.limited; inside = omega arith }

pub returns-clause-answer : goal.returns-clause-answer
returns-clause-answer g c = record { accepted = enough _ _ _ _ c.remaining.ensures.left c.if-width-remaining.false (omega arith); refused = tt }
