use Rattle.std.specs.Prelude.{refl}
use Rattle.bitvec.specs.DomainPartsLaws.{domain-segments}
use Rattle.bitvec.specs.Domains.{pieces_of}
use Rattle.bitvec.specs.Showing.{ShowsElements}
use Rattle.bitvec.specs.Views.{seen}
use Rattle.bitvec.specs.WidthLaws.{width_some}
use Rattle.bitvec_view_examples.proofs.domains_known.parts_by_element.Goals as goal

pub returns : goal.returns
returns g c =
    let shows : ShowsElements g.T.BitStore.BITS g.O.BitOrder.at g.T.BitStore.value (seen c.args.view) = record { bits = refl; memory = refl; has = rw c.window-window.ensures.value at c.window-window.ensures.inside } in
    domain-segments _ _ _ (seen c.args.view) (pieces_of c.domain.result) (width_some _ g.met.T.BitStore.width_law) shows c.domain.ensures
