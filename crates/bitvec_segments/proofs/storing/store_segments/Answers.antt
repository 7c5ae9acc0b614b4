use Rattle.std.proofs.Common.{arith, ◌∙◌}
use Rattle.bitvec_words.specs.FillingLaws.{fill_loads-some}
use Rattle.bitvec_words.specs.TouchedLaws.{part_loads-most, touched-one}
use Rattle.bitvec_base.specs.Parts.{first_part_of}
use Rattle.bitvec_store.specs.WidthLaws.{width_some}
use Rattle.bitvec_segments.proofs.JoinedWindow.{touched-most}
use Rattle.bitvec_segments.proofs.storing.store_segments.Goals as goal

pub returns : goal.returns
returns g c =
    let filled = fill_loads-some c.args.window.len (λ none. omega arith) in
    let edge = part_loads-most g.C.Elem.BitStore.BITS (first_part_of g.C.Elem.BitStore.BITS c.args.window) in
    let first = c.store_first-left.ensures in
    let later = c.store_two.ensures in
    record {
      writes = first.left _ later.writes;
      cost = record { borrow = later.cost.borrow ∙ first.cost.borrow; loads = omega arith; stores = omega arith };
    }

pub store_first-left-requires-clause-passes : goal.store_first-left-requires-clause-passes
store_first-left-requires-clause-passes g c =
    grind (arith, touched-one g.C.Elem.BitStore.BITS c.args.window.start c.args.window.len (width_some _ g.met.C.Elem.BitStore.width_law) c.requires.some)

pub store_two-requires-clause-few : goal.store_two-requires-clause-few
store_two-requires-clause-few g c =
    let first = c.store_first-left.ensures in
    let most = touched-most c.store_first-left.result.0.start 2 (width_some _ g.met.C.Elem.BitStore.width_law) first.some (omega arith) in
    omega arith
