use Rattle.std.proofs.Common.{arith}
use Rattle.bitvec_within.proofs.Combining.{parts-combined}
use Rattle.bitvec_within.proofs.combining_within.combine_parts.Goals as goal

pub returns-then-rest-gt0 : goal.returns-then-rest-gt0
returns-then-rest-gt0 g c = record {
  combines = parts-combined g.O.BitOrder.at c.args.op c.min.result _ c.requires.ranges (omega arith) c.requires.apart (rw c.split_at.ensures at c.combine_few.ensures.combines) (rw c.split_at.ensures at c.combine_cut.ensures.combines);
}
