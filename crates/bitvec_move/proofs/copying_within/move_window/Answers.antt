use Rattle.std.proofs.Common.{◌∙◌, arith}
use Rattle.bitvec_store.specs.WidthLaws.{width_some}
use Rattle.bitvec_move.proofs.WithinLaws.{late-read, late-stored}
use Rattle.bitvec_move.proofs.copying_within.move_window.Goals as goal

pub returns-then-to-from-clause-cost : goal.returns-then-to-from-clause-cost
returns-then-to-from-clause-cost g c =
    let some = width_some _ g.met.C.Elem.BitStore.width_law in
    let loads = late-read g.C.Elem.BitStore.BITS c.args.from.start some c.requires.lengths (omega arith) in
    let stores = late-stored g.C.Elem.BitStore.BITS c.args.to.start c.args.to.len some in
    let cost = c.move_to.ensures.cost in
    record { borrow = cost.borrow; loads = omega arith; stores = omega arith }

pub returns-else-to-from-clause-cost : goal.returns-else-to-from-clause-cost
returns-else-to-from-clause-cost g c =
    let some = width_some _ g.met.C.Elem.BitStore.width_law in
    let loads = late-read g.C.Elem.BitStore.BITS c.args.from.start some c.requires.lengths (omega arith) in
    let stores = late-stored g.C.Elem.BitStore.BITS c.args.to.start c.args.to.len some in
    let cost = c.move_to-else-to-from.ensures.cost in
    record { borrow = cost.borrow; loads = omega arith; stores = omega arith }
