use Rattle.std.proofs.Common.{arith, ◌∙◌}
use Rattle.bitrecord.proofs.Numbers.{read-all, view-encodable}
use Rattle.bitrecord.proofs.decoding.decode.Goals as goal

pub returns-then-is_seamless-clause-fit : goal.returns-then-is_seamless-clause-fit
returns-then-is_seamless-clause-fit g c =
    rw c.decode_words.ensures (view-encodable g.O.WordOrder.HIGH c.args.view c.args.endian _ _ c.args.layout.now.layout c.requires.bits)

pub returns-clause-numbers : goal.returns-clause-numbers
returns-clause-numbers g c =
    read-all _ _ _ _ _ _ c.loop-number.out (c.loop-number.auto.out ∙ c.requires.lengths) (λ k low. c.loop-number.invariant k (omega arith))

pub returns-clause-fit : goal.returns-clause-fit
returns-clause-fit g c =
    rw (returns-clause-numbers g c) (view-encodable g.O.WordOrder.HIGH c.args.view c.args.endian _ _ c.args.layout.now.layout c.requires.bits)
