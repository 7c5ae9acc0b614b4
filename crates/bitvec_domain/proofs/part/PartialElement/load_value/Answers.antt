use Rattle.bitvec_base.specs.PartLaws.{element-and_mask}
use Rattle.bitvec_domain.proofs.part.PartialElement.load_value.Goals as goal

pub returns-clause-bits : goal.returns-clause-bits
returns-clause-bits g c =
    let p = c.args.self.now in
    rw (c.and.ensures, p.masked) (element-and_mask _ _ (g.met.O.BitOrder.permutes _ g.met.T.BitStore.width_law) _ p.head p.tail p.ordered p.inside)
