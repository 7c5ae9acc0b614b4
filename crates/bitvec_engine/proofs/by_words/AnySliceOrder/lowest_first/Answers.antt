use Rattle.std.proofs.Common.{false, refl}
use Rattle.bitvec_engine.proofs.DirectionLemmas.{element-other_way, element-same_way}
use Rattle.bitvec_engine.proofs.by_words.AnySliceOrder.lowest_first.Goals as goal

pub returns-then-HIGH : goal.returns-then-HIGH
returns-then-HIGH g c =
    element-other_way g.O.WordOrder.HIGH false (rw (rw c.HIGH.ensures at c.if-HIGH.true) refl) 64 g.O.BitOrder.at (λ b i. i) (g.met.O.WordOrder.ends_law 64) (λ i below. refl) c.args.word c.reversed.result c.reversed.ensures

pub returns-else-HIGH : goal.returns-else-HIGH
returns-else-HIGH g c =
    element-same_way g.O.WordOrder.HIGH false (rw (rw c.HIGH.ensures at c.if-HIGH.false) refl) 64 g.O.BitOrder.at (λ b i. i) (g.met.O.WordOrder.ends_law 64) (λ i below. refl) c.args.word
