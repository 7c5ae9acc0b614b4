use Rattle.std.proofs.Common.{arith, rules}
use Rattle.bitvec_store.specs.WidthLaws.{width_some}
use Rattle.bitvec_cells.specs.WalkLaws.{first_loads-most}
use Rattle.bitvec_engine.proofs.slice_order.SliceOrder.find_first.Goals as goal

pub returns-clause-reads : goal.returns-clause-reads
returns-clause-reads g c =
    let b = g.C.Elem.BitStore.BITS in
    let most = first_loads-most g.Self.BitOrder.at c.args.want (width_some b g.met.C.Elem.BitStore.width_law) c.requires in
    let reads = rw c.scan_first.ensures.value at c.scan_first.ensures.reads in
    record { numbers = search rules; borrow = search rules; loads = omega arith; stores = search rules }
