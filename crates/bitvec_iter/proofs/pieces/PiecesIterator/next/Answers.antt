use Rattle.std.proofs.Common.{arith}
use Rattle.bitvec_iter.proofs.LeftLaws.{fewer, took_first, took_none}
use Rattle.bitvec_iter.proofs.pieces.PiecesIterator.next.Goals as goal

pub returns-in-None-clause-steps : goal.returns-in-None-clause-steps
returns-in-None-clause-steps g c = let s = c.in-None.ensures.steps in took_none c.args.self.now c.next.new.self _ s.1.0 s.1.1 s.0

pub returns-in-Some-clause-steps : goal.returns-in-Some-clause-steps
returns-in-Some-clause-steps g c = let s = c.in-Some.ensures.steps in took_first c.args.self.now c.next.new.self _ _ _ s.1.0 s.1.1 s.1.2 s.0 c.piece.ensures

pub returns-in-Some-clause-goes : goal.returns-in-Some-clause-goes
returns-in-Some-clause-goes g c = let s = c.in-Some.ensures.steps in record { on = λ _. (tt, tt, fewer c.args.self.now c.next.new.self _ (omega (arith, s.1.0, s.1.2, s.0))); keeps = tt; rests = λ _. tt }
