use Rattle.std.specs.Prelude.{refl}
use Rattle.bitvec_base.specs.PartLaws.{element-combine, length-part}
use Rattle.bitvec_domain.proofs.Parts.{writes_part}
use Rattle.bitvec_domain.proofs.part_mut.PartialElementMut.store_value.Goals as goal

pub returns : goal.returns
returns g c =
    let p = c.args.self.now in
    let t = g.T.BitStore in
    writes_part p refl refl refl (length-part t.BITS g.O.BitOrder.at (t.value c.args.value) p.head p.tail p.inside)
    (rw (c.or-self.ensures, c.and-outside.ensures, c.and.ensures, c.not.ensures, p.masked)
    (element-combine _ _ (g.met.O.BitOrder.permutes _ g.met.T.BitStore.width_law) _ _ p.head p.tail p.ordered p.inside))
