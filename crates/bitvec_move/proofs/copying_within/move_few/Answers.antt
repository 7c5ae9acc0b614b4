use Rattle.std.proofs.Common.{◌∙◌, sym, arith, refl, true}
use Rattle.bitvec_base.specs.WritesLaws.{Writes-is, length-list}
use Rattle.bitvec_words.specs.MovedLaws.{take-word}
use Rattle.bitvec_store.specs.WidthLaws.{width_some}
use Rattle.bitvec_cells.specs.CostLaws.{edges_loaded}
use Rattle.bitvec_move.proofs.MoveLemmas.{touched-read, touched-stored}
use Rattle.bitvec_move.proofs.copying_within.move_few.Goals as goal

pub returns-clause-writes : goal.returns-clause-writes
returns-clause-writes g c =
    let long = length-list g.O.BitOrder.at c.requires.span.beside in
    Writes-is (rw c.load_parts-word.ensures.reads.numbers at c.store_parts.ensures.writes)
    (take-word 64 _ c.load_parts-word.ensures.value (c.requires.span.lengths ∙ sym long))

pub returns-clause-cost : goal.returns-clause-cost
returns-clause-cost g c =
    let some = width_some _ g.met.C.Elem.BitStore.width_law in
    let loads = touched-read g.C.Elem.BitStore.BITS c.args.from.start some c.requires.span.lengths in
    let edges = edges_loaded g.C.Elem.BitStore.BITS true c.args.to.len in
    let stores = touched-stored g.C.Elem.BitStore.BITS c.args.to.start c.args.to.len c.args.to.len some refl in
    let reads = c.load_parts-word.ensures.reads in
    let cost = c.store_parts.ensures.cost in
    record { borrow = cost.borrow ∙ reads.borrow; loads = omega arith; stores = omega arith }
