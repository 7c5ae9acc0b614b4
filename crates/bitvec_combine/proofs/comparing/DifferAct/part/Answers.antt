use Rattle.std.proofs.Common.{arith, rules}
use Rattle.std.proofs.lemmas.Nat.{mod-mul-add}
use Rattle.bitvec_base.specs.MemoryLaws.{length-element_bits}
use Rattle.bitvec_base.specs.WriteLaws.{length-slice_range}
use Rattle.bitvec_words.specs.FieldLaws.{list-part}
use Rattle.bitvec_words.specs.SameLaws.{same-between}
use Rattle.bitvec_combine.specs.DifferLaws.{finds-one}
use Rattle.bitvec_combine.proofs.comparing.DifferAct.part.Goals as goal

pub returns : goal.returns
returns g c =
    let b = g.T.BitStore.BITS in
    let width = g.met.T.BitStore.width_law in
    let has = c.requires.part in
    let place = mod-mul-add c.args.part.element b c.args.part.from (omega arith) in
    let at = g.O.BitOrder.at in
    let all = length-element_bits b at (g.T.BitStore.value c.args.other) in
    let number = rw (c.xor.ensures, c.load-element.ensures.value, c.mask.ensures) at c.and-differing.ensures in
    finds-one _ width (omega arith) (omega arith) (length-slice_range _ _ _ (omega arith)) (search rules) c.or-self.ensures
    (rw (number, list-part at has) (same-between b at (g.met.O.BitOrder.permutes b width) _ _ _ _ has.order has.bound))
