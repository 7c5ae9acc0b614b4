use Rattle.std.proofs.Common.{arith}
use Rattle.std.proofs.Math.Nat.{le_refl}
use Rattle.bitvec_base.specs.WritesLaws.{HasWindow-kept, Writes-is}
use Rattle.bitvec_words.specs.FillingLaws.{replicate-is}
use Rattle.bitvec_words.specs.TouchedLaws.{part_loads-most}
use Rattle.bitvec_words.specs.WholeLaws.{window-end}
use Rattle.bitvec_words.proofs.CostLemmas.{costs-both, costs-within}
use Rattle.bitvec_words.proofs.SplitLemmas.{HasPart-is, HasWindow-behind, HasWindow-front, Writes-all, Writes-filled_split}
use Rattle.bitvec_words.proofs.filling.fill_aligned.Goals as goal

pub split_tail-first-requires : goal.split_tail-first-requires
split_tail-first-requires g c = record { edge = c.requires.edge; end = window-end c.requires.window }

pub fill_whole-requires : goal.fill_whole-requires
fill_whole-requires g c = HasWindow-front c.split_tail-first.ensures.split c.requires.window

pub returns-then-tail-eq0 : goal.returns-then-tail-eq0
returns-then-tail-eq0 g c =
    let split = c.split_tail-first.ensures.split in
    let cost = c.fill_whole.ensures.cost in
    record {
      writes = Writes-is (Writes-all split (omega arith) c.fill_whole.ensures.writes) (replicate-is _ (omega arith));
      cost = costs-within cost (omega arith) (omega arith);
      stores = omega arith;
      loads = omega arith;
    }

pub fill_part-requires : goal.fill_part-requires
fill_part-requires g c =
    let told = c.split_tail-first.ensures in
    HasPart-is (told.part c.if-tail-eq0.false) (HasWindow-kept _ (HasWindow-behind told.split c.requires.window) c.fill_whole.ensures.writes.elements)

pub returns : goal.returns
returns g c =
    let told = c.split_tail-first.ensures in
    let few = part_loads-most g.C.Elem.BitStore.BITS c.split_tail-first.result.2 in
    let cost = c.fill_whole.ensures.cost in
    let more = c.fill_part.ensures.cost in
    record {
      writes = Writes-filled_split told.split g.O.BitOrder.at c.requires.window c.args.bit c.fill_whole.ensures.writes c.fill_part.ensures.writes;
      cost = costs-both cost (costs-within more few (le_refl _)) (omega arith) (omega arith);
      stores = omega arith;
      loads = omega arith;
    }
