use Rattle.std.proofs.Common.{arith}
use Rattle.nesting.proofs.BracketLaws.{mended-next, mended-whole}
use Rattle.nesting.proofs.mending.mended.Goals as goal

pub loop-byte-preserved : goal.loop-byte-preserved
loop-byte-preserved c =
    let told = c.in_ok-read.ensures in
    mended-next c.args.text.now c.loop-byte.byte-index c.loop-byte.marks c.loop-byte.mended.items c.loop-byte.invariant (omega arith) c.read.new.marks c.read.new.text.items told.nested told.mended told.front told.kept told.same

pub returns-clause-mended : goal.returns-clause-mended
returns-clause-mended c =
    mended-whole c.args.text.now c.loop-byte.byte-index c.loop-byte.marks c.loop-byte.mended.items c.close_all.new.text.items c.loop-byte.invariant (omega arith) c.in_ok-close_all.ensures
