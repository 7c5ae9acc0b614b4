use Rattle.std.proofs.Common.{◌∙◌, arith}
use Rattle.nesting.proofs.BracketLaws.{next-group, next_mended-other}
use Rattle.nesting.proofs.mending.follow.Goals as goal

pub returns-then-close_group-clause-followed : goal.returns-then-close_group-clause-followed
returns-then-close_group-clause-followed c = rw c.in-41.is (next-group c.args.marks.now c.close_group.new.self c.if-close_group.ensures.group)

pub returns-then-close_group-clause-mended : goal.returns-then-close_group-clause-mended
returns-then-close_group-clause-mended c =
    rw c.in-41.is (next_mended-other 41 c.args.marks.now (omega arith) ∙ next-group c.args.marks.now c.close_group.new.self c.if-close_group.ensures.group)
