use Rattle.std.proofs.Common.{arith, refl, sym}
use Rattle.bitvec_base.specs.WritesLaws.{HasWindow-kept, Writes-empty, Writes-is}
use Rattle.bitvec_cells.specs.WalkLaws.{touched-none}
use Rattle.bitvec_words.specs.FillingLaws.{fill_loads-some, replicate-is}
use Rattle.bitvec_words.specs.TouchedLaws.{part_loads-most, touched-empty}
use Rattle.bitvec_words.specs.WholeLaws.{window-end}
use Rattle.bitvec_words.proofs.CostLemmas.{costs-both, costs-within}
use Rattle.bitvec_words.proofs.SplitLemmas.{HasPart-is, HasWindow-behind, HasWindow-front, Writes-all, Writes-filled_split}
use Rattle.bitvec_words.proofs.filling.fill.Goals as goal

pub returns-then-window-eq0 : goal.returns-then-window-eq0
returns-then-window-eq0 g c =
    let none = c.if-window-eq0.true in
    let nothing = touched-none g.C.Elem.BitStore.BITS c.args.window.start in
    record {
      writes = Writes-is (Writes-empty _ _ c.requires none refl) (replicate-is _ (sym none));
      cost = record { borrow = refl; loads = omega arith; stores = omega arith };
      stores = rw none (omega arith);
      loads = omega arith;
    }

pub split_head-requires : goal.split_head-requires
split_head-requires g c = record { some = omega arith; end = window-end c.requires }

pub fill_part-requires : goal.fill_part-requires
fill_part-requires g c = HasPart-is c.split_head.ensures.part (HasWindow-front c.split_head.ensures.split c.requires)

pub returns-then-rest-eq0 : goal.returns-then-rest-eq0
returns-then-rest-eq0 g c =
    let split = c.split_head.ensures.split in
    let nothing = touched-empty g.C.Elem.BitStore.BITS c.split_head.result.1.start _ c.if-rest-eq0.true in
    let touched = c.split_head.ensures.touched in
    let few = part_loads-most g.C.Elem.BitStore.BITS c.split_head.result.0 in
    let edges = fill_loads-some c.args.window.len c.if-window-eq0.false in
    let cost = c.fill_part.ensures.cost in
    record {
      writes = Writes-is (Writes-all split c.if-rest-eq0.true c.fill_part.ensures.writes) (replicate-is _ (omega arith));
      cost = costs-within cost (omega arith) (omega arith);
      stores = omega arith;
      loads = omega arith;
    }

pub fill_aligned-requires : goal.fill_aligned-requires
fill_aligned-requires g c =
    let split = c.split_head.ensures.split in
    record { window = HasWindow-kept _ (HasWindow-behind split c.requires) c.fill_part.ensures.writes.elements; edge = split.edge (omega arith) }

pub returns : goal.returns
returns g c =
    let split = c.split_head.ensures.split in
    let few = part_loads-most g.C.Elem.BitStore.BITS c.split_head.result.0 in
    let edges = fill_loads-some c.args.window.len c.if-window-eq0.false in
    let cost = c.fill_part.ensures.cost in
    let rest = c.fill_aligned.ensures in
    record {
      writes = Writes-filled_split split g.O.BitOrder.at c.requires c.args.bit c.fill_part.ensures.writes rest.writes;
      cost = costs-both cost rest.cost (omega arith) (omega arith);
      stores = omega arith;
      loads = omega arith;
    }
