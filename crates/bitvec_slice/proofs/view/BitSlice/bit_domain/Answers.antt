use Rattle.bitvec_slice.proofs.DomainBits.{bit_domain_shown}
use Rattle.bitvec_slice.proofs.view.BitSlice.bit_domain.Goals as goal

pub returns : goal.returns
returns g c =
    let v = c.args.self in
    bit_domain_shown _ _ _ v.elements.now v.head v.len g.met.T.BitStore.width_law v.inside v.bounded _ (rw c.window.ensures.value at c.bit_domain_of.ensures)
