use Rattle.std.proofs.Common.{sym, ◌∙◌}
use Rattle.bitvec_words.proofs.WordScanLemmas.{none-of_two}
use Rattle.bitvec_words.proofs.scanning_words.first_in_pair.Goals as goal

pub returns-then-to_u128-eq0 : goal.returns-then-to_u128-eq0
returns-then-to_u128-eq0 g c =
    let number = rw (c.or.ensures, c.xor.ensures, c.xor-2.ensures) at c.to_u128.ensures.number in
    none-of_two g.T.BitStore.BITS g.O.BitOrder.at (g.met.O.BitOrder.permutes _ g.met.T.BitStore.width_law) _ c.args.want c.filled-lacking.ensures _ _ (sym number ∙ c.if-to_u128-eq0.true)
