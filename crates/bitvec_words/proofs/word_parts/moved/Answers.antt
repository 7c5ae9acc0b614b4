use Rattle.std.proofs.Common.{arith, ap, ◌∙◌}
use Rattle.bitvec_base.specs.Memory.{element_bits}
use Rattle.bitvec_words.specs.MovedLaws.{cut-fits, cut-masked, word-element, word-none, lowest_bit-fits}
use Rattle.bitvec_words.proofs.word_parts.moved.Goals as goal

pub returns-then-len-eq0 : goal.returns-then-len-eq0
returns-then-len-eq0 g c =
    rw (c.ZERO.ensures, g.met.U.BitStore.zero_law)
    (word-none _ _ g.met.O.WordOrder.ends_law _ _ _ _ _ _ c.if-len-eq0.true c.requires.source c.requires.target)

pub from_u128-requires : goal.from_u128-requires
from_u128-requires g c =
    rw (c.to_u128.ensures.number, c.and-word.ensures, c.shr.ensures, c.shr-mask.ensures, c.ALL.ensures, g.met.T.BitStore.all_law, c.BITS.ensures)
    (cut-fits g.T.BitStore.BITS g.U.BitStore.BITS _ _ c.args.len (omega arith) (omega arith))

pub returns : goal.returns
returns g c =
    let source = c.requires.source in
    let target = c.requires.target in
    rw (c.shl.ensures, c.from_u128.ensures, c.to_u128.ensures.number, c.and-word.ensures, c.shr.ensures, c.shr-mask.ensures, c.ALL.ensures, g.met.T.BitStore.all_law, c.BITS.ensures, c.lowest-down.ensures, c.lowest-up.ensures)
    (ap (element_bits g.U.BitStore.BITS g.O.BitOrder.at) (cut-masked g.T.BitStore.BITS g.U.BitStore.BITS _ _ c.args.len _ (omega arith) (lowest_bit-fits _ _ _ _ target))
    ∙ word-element _ _ g.met.O.WordOrder.ends_law _ _ _ _ _ _ source target)

pub shr-mask-requires : goal.shr-mask-requires
shr-mask-requires g c = let source = c.requires.source in omega arith

pub shr-requires : goal.shr-requires
shr-requires g c = let low = lowest_bit-fits g.O.WordOrder.HIGH g.T.BitStore.BITS _ c.args.len c.requires.source in rw c.lowest-down.ensures (omega arith)

pub shl-requires : goal.shl-requires
shl-requires g c = let low = lowest_bit-fits g.O.WordOrder.HIGH g.U.BitStore.BITS _ c.args.len c.requires.target in rw c.lowest-up.ensures (omega arith)
