use Rattle.std.proofs.lemmas.List.{length-map}
use Rattle.bitvec_store.specs.WidthLaws.{width_some}
use Rattle.bitvec_domain.specs.CutLaws.{cut_is}
use Rattle.bitvec_domain.proofs.cut.Cut.of_elements.Goals as goal

pub returns-clause-within : goal.returns-clause-within
returns-clause-within g c =
    let is = cut_is _ (λ width index. index) _ _ (width_some _ g.met.T.BitStore.width_law) c.requires in
    rw c.of.ensures (rw length-map at is.within)
