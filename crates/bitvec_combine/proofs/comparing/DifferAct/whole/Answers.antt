use Rattle.std.proofs.Common.{arith, rules}
use Rattle.std.proofs.Math.Nat.{mul-mod_left}
use Rattle.bitvec_base.specs.MemoryLaws.{length-element_bits}
use Rattle.bitvec_store.specs.WidthLaws.{width_some}
use Rattle.bitvec_words.specs.FieldLaws.{list-whole}
use Rattle.bitvec_words.specs.SameLaws.{same-whole}
use Rattle.bitvec_combine.specs.DifferLaws.{finds-one}
use Rattle.bitvec_combine.proofs.comparing.DifferAct.whole.Goals as goal

pub returns : goal.returns
returns g c =
    let b = g.T.BitStore.BITS in
    let at = g.O.BitOrder.at in
    let width = g.met.T.BitStore.width_law in
    let first = mul-mod_left c.args.index b in
    finds-one _ width (width_some b width) (omega arith) (length-element_bits b at _) (search rules) c.or-self.ensures
    (rw (c.xor.ensures, list-whole b at _ _ c.requires, ← c.load-element.ensures.value) (same-whole b at (g.met.O.BitOrder.permutes _ width) _ _ c.load-element.ensures.in_range c.in_range.ensures))
