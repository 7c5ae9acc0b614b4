use Rattle.std.proofs.Common.{rules, Bool, List, true, false}
use Rattle.bitvec_store.specs.WidthLaws.{width_some}
use Rattle.bitvec_cells.specs.WalkLaws.{first_loads-most, last_loads-most}
use Rattle.bitvec_commands.proofs.query.query.Goals as goal

pub returns-in-FirstOne : goal.returns-in-FirstOne
returns-in-FirstOne g c = λ (right : List Bool).
    let reads = rw c.scan_first.ensures.value at c.scan_first.ensures.reads in
    let most = first_loads-most g.O.BitOrder.at true (width_some _ g.met.C.Elem.BitStore.width_law) c.requires.window in
    rw c.in-FirstOne.is (search rules)

pub returns-in-FirstZero : goal.returns-in-FirstZero
returns-in-FirstZero g c = λ (right : List Bool).
    let reads = rw c.scan_first-in-FirstZero.ensures.value at c.scan_first-in-FirstZero.ensures.reads in
    let most = first_loads-most g.O.BitOrder.at false (width_some _ g.met.C.Elem.BitStore.width_law) c.requires.window in
    rw c.in-FirstZero.is (search rules)

pub returns-in-LastOne : goal.returns-in-LastOne
returns-in-LastOne g c = λ (right : List Bool).
    let reads = rw c.scan_last.ensures.value at c.scan_last.ensures.reads in
    let most = last_loads-most g.O.BitOrder.at true (width_some _ g.met.C.Elem.BitStore.width_law) c.requires.window in
    rw c.in-LastOne.is (search rules)

pub returns-in-LastZero : goal.returns-in-LastZero
returns-in-LastZero g c = λ (right : List Bool).
    let reads = rw c.scan_last-in-LastZero.ensures.value at c.scan_last-in-LastZero.ensures.reads in
    let most = last_loads-most g.O.BitOrder.at false (width_some _ g.met.C.Elem.BitStore.width_law) c.requires.window in
    rw c.in-LastZero.is (search rules)
