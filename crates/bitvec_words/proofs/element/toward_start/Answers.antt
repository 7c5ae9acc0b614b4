use Rattle.std.proofs.Common.{◌∙◌, sym}
use Rattle.bitvec_words.proofs.OrderEndLaws.{shl-high, shr-low}
use Rattle.bitvec_words.proofs.element.toward_start.Goals as goal

pub returns-then-HIGH : goal.returns-then-HIGH
returns-then-HIGH g c =
    let t = g.T.BitStore in
    cc (shl-high _ t.BITS g.O.BitOrder.at (g.met.O.WordOrder.ends_law _) (sym c.HIGH.ensures ∙ c.if-HIGH.true) (t.value c.args.element) c.args.by c.requires)

pub returns : goal.returns
returns g c =
    let t = g.T.BitStore in
    cc (shr-low _ t.BITS g.O.BitOrder.at (g.met.O.WordOrder.ends_law _) (sym c.HIGH.ensures ∙ c.if-HIGH.false) (t.value c.args.element) c.args.by c.in_range.ensures c.requires)
