use Rattle.std.proofs.Common.{is_ok}
use Rattle.bitvec.specs.Owned.{owned}
use Rattle.nesting.proofs.MarkLaws.{view-pushed}
use Rattle.nesting.proofs.marks.Marks.open.Goals as goal

pub returns : goal.returns
returns c = view-pushed (owned c.self.inside.bits).bits c.args.self.now c.self.view_is (owned c.push.new.self).bits c.args.block (is_ok c.push.result) c.push.ensures.bits
