use Rattle.std.proofs.Common.{arith}
use Rattle.bitvec_base.specs.WritesLaws.{HasWindow-kept}
use Rattle.bitvec_words.specs.WholeLaws.{window-end}
use Rattle.bitvec_words.proofs.CostLemmas.{costs-sum}
use Rattle.bitvec_words.proofs.SplitLemmas.{HasPart-is, HasWindow-behind, HasWindow-front, Writes-flipped_all, Writes-flipped_split}
use Rattle.bitvec_words.proofs.filling.invert_aligned.Goals as goal

pub split_tail-first-requires : goal.split_tail-first-requires
split_tail-first-requires g c = record { edge = c.requires.edge; end = window-end c.requires.window }

pub invert_whole-requires : goal.invert_whole-requires
invert_whole-requires g c = HasWindow-front c.split_tail-first.ensures.split c.requires.window

pub returns-then-tail-eq0 : goal.returns-then-tail-eq0
returns-then-tail-eq0 g c =
    let split = c.split_tail-first.ensures.split in
    record { writes = Writes-flipped_all split (omega arith) c.invert_whole.ensures.writes; cost = rw (c.split_tail-first.ensures.whole c.if-tail-eq0.true) c.invert_whole.ensures.cost }

pub invert_part-requires : goal.invert_part-requires
invert_part-requires g c =
    let told = c.split_tail-first.ensures in
    HasPart-is (told.part c.if-tail-eq0.false) (HasWindow-kept _ (HasWindow-behind told.split c.requires.window) c.invert_whole.ensures.writes.elements)

pub returns : goal.returns
returns g c =
    let told = c.split_tail-first.ensures in
    record {
      writes = Writes-flipped_split told.split g.O.BitOrder.at c.requires.window c.invert_whole.ensures.writes c.invert_part.ensures.writes;
      cost = costs-sum c.invert_whole.ensures.cost c.invert_part.ensures.cost (omega arith) (omega arith);
    }
