use Rattle.std.proofs.Common.{true, false, not, sym, ◌∙◌}
use Rattle.bitvec_places.proofs.TakingLemmas.{count-taken, is_one, is_zero}
use Rattle.bitvec_places.proofs.taking.count_left.Goals as goal

pub returns-then-want-clause-value : goal.returns-then-want-clause-value
returns-then-want-clause-value g c =
    let found = rw c.range-left.ensures at c.count.ensures.value in
    rw c.if-want.true (found ∙ sym (count-taken g.C.Elem.BitStore.BITS g.O.BitOrder.at _ c.args.window c.args.rest true c.requires.window c.requires.inside (λ bit. bit) is_one))

pub returns-else-want-clause-value : goal.returns-else-want-clause-value
returns-else-want-clause-value g c =
    let found = rw c.range-left.ensures at c.count_zeros.ensures.value in
    rw c.if-want.false (found ∙ sym (count-taken g.C.Elem.BitStore.BITS g.O.BitOrder.at _ c.args.window c.args.rest false c.requires.window c.requires.inside not is_zero))
