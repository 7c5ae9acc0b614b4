use Rattle.bitvec_elements.proofs.ElementLemmas.{whole_range}
use Rattle.bitvec_elements.proofs.copying_elements.whole_range.Goals as goal

pub returns : goal.returns
returns g c =
    let all = whole_range g.T.BitStore.BITS c.args.window.start c.args.window.len g.met.T.BitStore.width_law c.requires in
    rw c.BITS-bits.ensures (record { front = all.front; edge = all.edge; order = all.order; bound = all.bound; whole = all.whole; back = all.back; rest = all.rest })
