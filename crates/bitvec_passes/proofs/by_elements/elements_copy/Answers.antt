use Rattle.std.proofs.Common.{ap, arith, false}
use Rattle.bitvec_store.specs.WidthLaws.{width_some}
use Rattle.bitvec_cells.specs.Cost.{read_loads}
use Rattle.bitvec_cells.specs.CostLaws.{read_enough, store_enough, touched_read, touched_stored, write_enough}
use Rattle.bitvec_words.proofs.CostLemmas.{costs-most, costs-within, reads-most, reads-within}
use Rattle.bitvec_passes.proofs.by_elements.elements_copy.Goals as goal

pub returns-then-phase-clause-cost : goal.returns-then-phase-clause-cost
returns-then-phase-clause-cost g c = costs-most c.copy_equal.ensures.cost (omega (arith, write_enough g.C.Elem.BitStore.BITS c.args.to.len)) (touched_stored _ false _ _ (width_some _ g.met.C.Elem.BitStore.width_law))

pub returns-then-phase-clause-right : goal.returns-then-phase-clause-right
returns-then-phase-clause-right g c =
    let most = touched_read g.C.Elem.BitStore.BITS false c.args.from.start c.args.from.len (width_some _ g.met.C.Elem.BitStore.width_law) in
    reads-most c.copy_equal.ensures.right (omega (arith, ap (read_loads g.C.Elem.BitStore.BITS false) c.requires.lengths))

pub returns-else-to-gt0-clause-cost : goal.returns-else-to-gt0-clause-cost
returns-else-to-gt0-clause-cost g c = costs-within c.bits_copy.ensures.cost (omega (arith, write_enough g.C.Elem.BitStore.BITS c.args.to.len)) (store_enough _ _)

pub returns-else-to-gt0-clause-right : goal.returns-else-to-gt0-clause-right
returns-else-to-gt0-clause-right g c = reads-within c.bits_copy.ensures.right (omega (arith, read_enough g.C.Elem.BitStore.BITS c.args.to.len))
