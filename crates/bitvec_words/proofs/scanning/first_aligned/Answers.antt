use Rattle.bitvec_store.specs.WidthLaws.{width_some}
use Rattle.bitvec_words.proofs.CostLemmas.{reads-most}
use Rattle.bitvec_words.proofs.WordScanLemmas.{HasWindow-touched, first-touched, first-touched_all, first-touched_lacks, first-touched_loads}
use Rattle.bitvec_words.proofs.scanning.first_aligned.Goals as goal

pub first_whole-requires : goal.first_whole-requires
first_whole-requires g c =
    rw c.elements_from_edge-first.ensures (HasWindow-touched _ g.O.BitOrder.at _ c.args.window c.args.want (width_some _ g.met.C.Elem.BitStore.width_law) c.requires.window c.requires.edge)

pub returns-in_err-found : goal.returns-in_err-found
returns-in_err-found g c =
    let some = width_some _ g.met.C.Elem.BitStore.width_law in
    let scan = rw c.elements_from_edge-first.ensures at c.in_err-found.ensures in
    rw c.from_residual.ensures
    (record {
      value = first-touched_lacks _ g.O.BitOrder.at _ c.args.window c.args.want some c.requires.window c.requires.edge scan.value;
      reads = reads-most scan.reads (first-touched_all _ g.O.BitOrder.at _ c.args.window c.args.want some c.requires.window c.requires.edge);
    })

pub returns : goal.returns
returns g c =
    let some = width_some _ g.met.C.Elem.BitStore.width_law in
    let scan = rw c.elements_from_edge-first.ensures at c.in_ok-found.ensures in
    rw c.then_some.ensures
    (record {
      value = first-touched _ g.O.BitOrder.at _ c.args.window c.args.want some c.requires.window c.requires.edge _ scan.value;
      reads = reads-most scan.reads (first-touched_loads _ g.O.BitOrder.at _ c.args.window c.args.want some c.requires.window c.requires.edge _ scan.value);
    })
