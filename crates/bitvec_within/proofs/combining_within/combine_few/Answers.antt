use Rattle.bitvec_within.proofs.Combining.{none-combined}
use Rattle.bitvec_within.proofs.combining_within.combine_few.Goals as goal

pub returns-then-ranges-eq0 : goal.returns-then-ranges-eq0
returns-then-ranges-eq0 g c = record { combines = none-combined g.O.BitOrder.at c.args.op c.requires.ranges c.if-ranges-eq0.true }
