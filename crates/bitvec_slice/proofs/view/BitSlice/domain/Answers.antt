use Rattle.bitvec_slice.proofs.DomainBits.{domain_shown}
use Rattle.bitvec_slice.proofs.view.BitSlice.domain.Goals as goal

pub returns : goal.returns
returns g c =
    let v = c.args.self in
    domain_shown _ _ _ v.elements.now v.head v.len g.met.T.BitStore.width_law v.inside v.bounded _ (rw c.window.ensures.value at c.domain_of.ensures)
