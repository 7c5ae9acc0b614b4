use Rattle.std.proofs.Common.{◌+◌, ap, arith, length, refl, ◌∙◌}
use Rattle.bitvec_words.specs.AcrossLaws.{word-next}
use Rattle.bitvec_store.specs.WidthLaws.{width_some}
use Rattle.bitvec_words.specs.TouchedLaws.{part_loads-most}
use Rattle.bitvec_few.proofs.FewLemmas.{stored-across, touched-across}
use Rattle.bitvec_few.proofs.word.store_across.Goals as goal

pub returns-clause-writes : goal.returns-clause-writes
returns-clause-writes g c =
    let before = rw c.load.ensures.numbers at c.store_elements.ensures.writes in
    let after = rw c.elements_of.ensures at c.store_part.ensures.writes in
    stored-across g.C.Elem.BitStore.BITS c.args.window g.met.C.Elem.BitStore.width_law c.requires.narrow c.requires.size c.requires.inside g.O.BitOrder.at _ _ _ _
    c.element-first.ensures c.phase-skip.ensures c.requires.window c.load.ensures.value c.moved-kept.ensures c.moved.ensures c.moved-behind.ensures before after

pub returns-clause-cost : goal.returns-clause-cost
returns-clause-cost g c =
    let b = g.C.Elem.BitStore.BITS in
    let window = c.args.window in
    let head = c.load.ensures in
    let stored = c.store_elements.ensures.cost in
    let cost = c.store_part.ensures.cost in
    let most = part_loads-most b (record { element = c.element-first.result + c.elements_of.result; from = 0; to = c.phase-skip.result }) in
    let all = touched-across b window g.met.C.Elem.BitStore.width_law c.requires.narrow c.requires.size c.requires.inside in
    rw (all, c.requires.size) (record { borrow = cost.borrow ∙ stored.borrow ∙ head.borrow; loads = omega arith; stores = omega arith })

pub store_part-requires : goal.store_part-requires
store_part-requires g c =
    let width = g.met.C.Elem.BitStore.width_law in
    let some = width_some _ width in
    let same = c.store_elements.ensures.writes.elements ∙ ap length c.load.ensures.numbers in
    let next = word-next g.C.Elem.BitStore.BITS _ _ _ c.args.window width refl c.requires.window c.requires.size (omega arith) (omega arith) same in
    record { element = omega arith; order = omega arith; bound = omega arith }
