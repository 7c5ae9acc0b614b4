use Rattle.bitvec.specs.Owned.{owned}
use Rattle.nesting.proofs.MarkLaws.{view-popped}
use Rattle.nesting.proofs.marks.Marks.close.Goals as goal

pub returns-clause-mark : goal.returns-clause-mark
returns-clause-mark c = view-popped (owned c.self.inside.bits).bits c.args.self.now c.self.view_is (owned c.pop.new.self).bits c.pop.result c.pop.ensures.bits
