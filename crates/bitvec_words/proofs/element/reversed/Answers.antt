use Rattle.std.proofs.Common.{◌/◌, arith, ◌∙◌, ap, refl}
use Rattle.bitvec_words.specs.Exchanged.{halved_blocks}
use Rattle.bitvec_words.proofs.ExchangeLemmas.{ReversesBlocks-start, ReversesBlocks-next, ReversesBlocks-end}
use Rattle.bitvec_words.proofs.element.reversed.Goals as goal

pub loop-size-init : goal.loop-size-init
loop-size-init g c =
    let t = g.T.BitStore in
    let all = ap t.value c.ALL-lower.ensures ∙ g.met.T.BitStore.all_law in
    rw c.BITS-size.ensures (ReversesBlocks-start t.BITS g.met.T.BitStore.width_law all)

pub loop-size-preserved : goal.loop-size-preserved
unfolding halved_blocks
loop-size-preserved g c =
    rw (c.exchanged-mirrored.ensures, c.xor-lower.ensures, c.shl.ensures)
    (ReversesBlocks-next (c.loop-size.size / 2) c.loop-size.invariant (omega arith) refl)

pub returns : goal.returns
returns g c =
    ReversesBlocks-end g.O.WordOrder.HIGH g.T.BitStore.BITS g.O.BitOrder.at (g.met.O.WordOrder.ends_law g.T.BitStore.BITS) _ _ _ _ c.loop-size.invariant (omega arith)
