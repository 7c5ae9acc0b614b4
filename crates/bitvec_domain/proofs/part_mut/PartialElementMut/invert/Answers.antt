use Rattle.std.specs.Prelude.{not, refl}
use Rattle.std.proofs.Common.{◌∙◌}
use Rattle.std.proofs.lemmas.List.{length-map}
use Rattle.bitvec_base.specs.MemoryLaws.{element-xor_mask}
use Rattle.bitvec_base.specs.PartLaws.{length-part}
use Rattle.bitvec_domain.specs.Parts.{seen_part_mut}
use Rattle.bitvec_domain.proofs.Parts.{writes_part}
use Rattle.bitvec_domain.proofs.part_mut.PartialElementMut.invert.Goals as goal

pub returns : goal.returns
returns g c =
    let p = c.args.self.now in
    writes_part p refl refl refl (length-map (seen_part_mut p).bits not ∙ length-part _ _ _ _ _ p.inside)
    (rw (c.xor-self.ensures, p.masked) (element-xor_mask _ _ (g.met.O.BitOrder.permutes _ g.met.T.BitStore.width_law) _ p.head p.tail p.ordered p.inside))
