use Rattle.std.proofs.Common.{◌∙◌, arith}
use Rattle.bitvec_words.specs.TouchedLaws.{touched-first}
use Rattle.bitvec_combine.proofs.acting_short.act_short.Goals as goal

pub returns-clause-right : goal.returns-clause-right
returns-clause-right g c =
    let first = c.load-carry.ensures in
    let rest = c.act_from_edge.ensures.right in
    let one = touched-first g.C.Elem.BitStore.BITS c.args.from.start c.args.from.len (omega (arith, c.requires.some, c.requires.span.lengths)) in
    record { numbers = rest.numbers ∙ first.numbers; borrow = rest.borrow ∙ first.borrow; loads = grind arith; stores = rest.stores ∙ first.stores }
