use Rattle.std.proofs.Common.{ap, arith, false}
use Rattle.bitvec_store.specs.WidthLaws.{width_some}
use Rattle.bitvec_cells.specs.Cost.{read_loads, write_stores}
use Rattle.bitvec_cells.specs.CostLaws.{read_enough, store_enough, touched_read, touched_stored, write_enough}
use Rattle.bitvec_words.proofs.CostLemmas.{costs-within}
use Rattle.bitvec_passes.proofs.by_elements.elements_swap.Goals as goal

pub returns-then-phase-clause-cost : goal.returns-then-phase-clause-cost
returns-then-phase-clause-cost g c =
    let some = width_some g.C.Elem.BitStore.BITS g.met.C.Elem.BitStore.width_law in
    costs-within c.swap_equal.ensures.cost (omega (arith, touched_read _ false c.args.left_window.start c.args.left_window.len some)) (touched_stored _ false _ _ some)

pub returns-then-phase-clause-right_cost : goal.returns-then-phase-clause-right_cost
returns-then-phase-clause-right_cost g c =
    let b = g.C.Elem.BitStore.BITS in
    let some = width_some b g.met.C.Elem.BitStore.width_law in
    let place = c.args.right_window in
    let same = c.requires.lengths in
    costs-within c.swap_equal.ensures.right_cost (omega (arith, touched_read b false place.start place.len some, ap (read_loads b false) same))
    (omega (arith, touched_stored b false place.start place.len some, ap (write_stores b false) same))

pub returns-else-left_window-gt0-clause-cost : goal.returns-else-left_window-gt0-clause-cost
returns-else-left_window-gt0-clause-cost g c = costs-within c.bits_swap.ensures.cost (omega (arith, read_enough g.C.Elem.BitStore.BITS c.args.left_window.len)) (store_enough _ _)

pub returns-else-left_window-gt0-clause-right_cost : goal.returns-else-left_window-gt0-clause-right_cost
returns-else-left_window-gt0-clause-right_cost g c =
    let b = g.C.Elem.BitStore.BITS in
    let n = c.args.left_window.len in
    costs-within c.bits_swap.ensures.right_cost (omega (arith, write_enough b n)) (omega (arith, store_enough b n))
