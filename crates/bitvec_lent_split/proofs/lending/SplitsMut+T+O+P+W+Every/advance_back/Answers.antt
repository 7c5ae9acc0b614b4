use Rattle.std.specs.Prelude.{Some, None, refl}
use Rattle.bitvec_lent_split.proofs.SplitStateLaws.{goes_on, step_on}
use Rattle.bitvec_lent_split.specs.Lent.{SplitNextBackIn, StaysIn}
use Rattle.bitvec_lent_split.proofs.lending.SplitsMut+T+O+P+W+Every.advance_back.Goals as goal

pub returns-in_default-clause-stays : goal.returns-in_default-clause-stays
returns-in_default-clause-stays g c = step_on (λ s r t. StaysIn s.left r t.left) c.look-bits.ensures c.args.self.now.state c.step_from.new.self None c.in_default.ensures.stays

pub returns-in_default-clause-piece : goal.returns-in_default-clause-piece
returns-in_default-clause-piece g c =
    step_on (λ s r t. SplitNextBackIn g.P.FnMut g.W.SplitKind.INCLUSIVE g.W.SplitKind.REVERSED s.left r t.left) c.look-bits.ensures c.args.self.now.state c.step_from.new.self None c.in_default.ensures.piece

pub returns-clause-stays : goal.returns-clause-stays
returns-clause-stays g c = step_on (λ s r t. StaysIn s.left r t.left) c.look-bits.ensures c.args.self.now.state c.step_from.new.self (Some c.in-Some.range) c.in-Some.ensures.stays

pub returns-clause-piece : goal.returns-clause-piece
returns-clause-piece g c =
    step_on (λ s r t. SplitNextBackIn g.P.FnMut g.W.SplitKind.INCLUSIVE g.W.SplitKind.REVERSED s.left r t.left) c.look-bits.ensures c.args.self.now.state c.step_from.new.self (Some c.in-Some.range)
    (rw c.REVERSED.ensures at c.in-Some.ensures.piece)

pub look-bits-requires : goal.look-bits-requires
look-bits-requires g c = record { inside = c.args.self.now.inside; fits = c.args.self.now.bounded }

pub step_from-requires : goal.step_from-requires
step_from-requires g c = goes_on g.P.FnMut c.look-bits.ensures c.args.self.now.state c.requires

pub returns-in_default-clause-name : goal.returns-in_default-clause-name
returns-in_default-clause-name g c = refl

pub returns-clause-name : goal.returns-clause-name
returns-clause-name g c = refl
