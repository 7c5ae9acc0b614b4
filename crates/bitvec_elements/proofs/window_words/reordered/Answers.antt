use Rattle.bitvec_engine.proofs.DirectionLemmas.{element-other_way, element-same_way}
use Rattle.bitvec_elements.proofs.window_words.reordered.Goals as goal

pub returns-then-HIGH : goal.returns-then-HIGH
returns-then-HIGH g c =
    element-same_way g.V.WordOrder.HIGH g.W.WordOrder.HIGH (rw (c.HIGH.ensures, c.HIGH-2.ensures) at c.if-HIGH.true) 64 g.V.BitOrder.at g.W.BitOrder.at (g.met.V.WordOrder.ends_law 64) (g.met.W.WordOrder.ends_law 64) c.args.word

pub returns-else-HIGH : goal.returns-else-HIGH
returns-else-HIGH g c =
    element-other_way g.V.WordOrder.HIGH g.W.WordOrder.HIGH (rw (c.HIGH.ensures, c.HIGH-2.ensures) at c.if-HIGH.false) 64 g.V.BitOrder.at g.W.BitOrder.at (g.met.V.WordOrder.ends_law 64) (g.met.W.WordOrder.ends_law 64) c.args.word c.reversed.result c.reversed.ensures
