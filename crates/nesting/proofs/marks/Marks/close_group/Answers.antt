use Rattle.std.proofs.Common.{arith}
use Rattle.bitvec.specs.Owned.{owned}
use Rattle.nesting.proofs.MarkLaws.{view-group}
use Rattle.nesting.proofs.marks.Marks.close_group.Goals as goal

pub returns-clause-group : goal.returns-clause-group
returns-clause-group c =
    view-group (owned c.self.inside.bits).bits c.args.self.now c.self.view_is (owned c.truncate.new.self).bits c.len-len.result c.len-len.ensures.value (omega arith) (cc) c.truncate.ensures.bits
