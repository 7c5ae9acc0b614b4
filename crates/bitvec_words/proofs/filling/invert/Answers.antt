use Rattle.std.proofs.Common.{◌≡◌, arith, refl, sym, ap, map, not}
use Rattle.bitvec_base.specs.WritesLaws.{HasWindow-kept, Writes-empty, Writes-is}
use Rattle.bitvec_cells.specs.Cost.{touched_count}
use Rattle.bitvec_cells.specs.WalkLaws.{touched-none}
use Rattle.bitvec_words.specs.TouchedLaws.{touched-empty}
use Rattle.bitvec_words.specs.WholeLaws.{list-empty, window-end}
use Rattle.bitvec_words.proofs.CostLemmas.{costs-sum}
use Rattle.bitvec_words.proofs.SplitLemmas.{HasPart-is, HasWindow-behind, HasWindow-front, Writes-flipped_all, Writes-flipped_split}
use Rattle.bitvec_words.proofs.filling.invert.Goals as goal

pub returns-then-window-eq0 : goal.returns-then-window-eq0
returns-then-window-eq0 g c =
    let none = c.if-window-eq0.true in
    let nothing = touched-none g.C.Elem.BitStore.BITS c.args.window.start in
    record {
      writes = Writes-is (Writes-empty _ _ c.requires none refl) (ap (map not) (sym (list-empty _ _ _ _ none)));
      cost = rw none (record { borrow = refl; loads = omega arith; stores = omega arith });
    }

pub split_head-requires : goal.split_head-requires
split_head-requires g c = record { some = omega arith; end = window-end c.requires }

pub invert_part-requires : goal.invert_part-requires
invert_part-requires g c = HasPart-is c.split_head.ensures.part (HasWindow-front c.split_head.ensures.split c.requires)

pub returns-then-rest-eq0 : goal.returns-then-rest-eq0
returns-then-rest-eq0 g c =
    let split = c.split_head.ensures.split in
    let nothing = touched-empty g.C.Elem.BitStore.BITS c.split_head.result.1.start _ c.if-rest-eq0.true in
    let one : touched_count g.C.Elem.BitStore.BITS c.args.window.start c.args.window.len ≡ 1 = omega (arith, c.split_head.ensures.touched) in
    record { writes = Writes-flipped_all split c.if-rest-eq0.true c.invert_part.ensures.writes; cost = rw one c.invert_part.ensures.cost }

pub invert_aligned-requires-2 : goal.invert_aligned-requires-2
invert_aligned-requires-2 g c =
    let split = c.split_head.ensures.split in
    record { window = HasWindow-kept _ (HasWindow-behind split c.requires) c.invert_part.ensures.writes.elements; edge = split.edge (omega arith) }

pub returns : goal.returns
returns g c =
    let split = c.split_head.ensures.split in
    record {
      writes = Writes-flipped_split split g.O.BitOrder.at c.requires c.invert_part.ensures.writes c.invert_aligned-2.ensures.writes;
      cost = costs-sum c.invert_part.ensures.cost c.invert_aligned-2.ensures.cost (omega arith) (omega arith);
    }
