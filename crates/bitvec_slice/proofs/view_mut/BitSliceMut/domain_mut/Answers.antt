use Rattle.bitvec_slice.proofs.DomainBits.{domain_shown}
use Rattle.bitvec_slice.proofs.view_mut.BitSliceMut.domain_mut.Goals as goal

pub returns : goal.returns
returns g c =
    let v = c.args.self.now in
    domain_shown _ _ _ v.elements.now v.head v.len g.met.T.BitStore.width_law v.inside v.bounded _ (rw (c.elements_mut.ensures.elements, c.window-window.ensures.value) at c.domain_mut_of.ensures)
