use Rattle.bitvec_slice.proofs.DomainBits.{bit_domain_shown}
use Rattle.bitvec_slice.proofs.view_mut.BitSliceMut.bit_domain_mut.Goals as goal

pub returns : goal.returns
returns g c =
    let v = c.args.self.now in
    bit_domain_shown _ _ _ v.elements.now v.head v.len g.met.T.BitStore.width_law v.inside v.bounded _ (rw (c.elements_mut.ensures.elements, c.window-window.ensures.value) at c.bit_domain_mut_of.ensures)
