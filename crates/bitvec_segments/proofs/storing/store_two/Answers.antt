use Rattle.std.proofs.Common.{arith, ◌∙◌}
use Rattle.bitvec_words.specs.TouchedLaws.{touched-first}
use Rattle.bitvec_base.specs.Parts.{first_part_of}
use Rattle.bitvec_segments.proofs.WalkLemmas.{whole-none}
use Rattle.bitvec_segments.proofs.storing.store_two.Goals as goal

pub returns-then-window-BITS : goal.returns-then-window-BITS
returns-then-window-BITS g c =
    let some = touched-first g.C.Elem.BitStore.BITS c.args.window.start c.args.window.len c.requires.some in
    let cost = c.store_one.ensures.cost in
    record { writes = c.store_one.ensures.writes; cost = record { borrow = cost.borrow; loads = cost.loads; stores = omega arith } }

pub returns : goal.returns
returns g c =
    let first = c.store_first-left.ensures in
    let last = c.store_one-2.ensures in
    let some = touched-first g.C.Elem.BitStore.BITS c.store_first-left.result.0.start c.store_first-left.result.0.len first.some in
    let none = whole-none g.C.Elem.BitStore.BITS (first_part_of g.C.Elem.BitStore.BITS c.args.window) (omega arith) in
    record {
      writes = first.left _ last.writes;
      cost = record { borrow = last.cost.borrow ∙ first.cost.borrow; loads = omega arith; stores = omega arith };
    }
