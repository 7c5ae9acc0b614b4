use Rattle.std.proofs.Common.{◌≡◌, true, false, nat_lt, sym, refl, ◌∙◌, rules}
use Rattle.bitvec_slice.specs.LentLaws.{is-none, is-some}
use Rattle.bitvec_iter.proofs.PartLaws.{tested, untested}
use Rattle.bitvec_iter.proofs.lent_bits.IterMut.next_back_lent.Goals as goal

pub returns-then-self : goal.returns-then-self
returns-then-self g c =
    let left : nat_lt c.args.self.now.front c.args.self.now.back ≡ true = (tested _ _).1 c.if-self.true in
    ((refl, λ w. is-some _ _ _ left), record { writes_back = tt; lent = c.lent_last.ensures.lent ∙ sym left; bit = λ _. c.lent_last.ensures.bit })

pub returns : goal.returns
returns g c =
    let none : nat_lt c.args.self.now.front c.args.self.now.back ≡ false = untested _ _ c.if-self.false in
    ((refl, λ w. is-none _ _ _ none), record { writes_back = tt; lent = c.lent_nothing.ensures.lent ∙ sym none; bit = search rules })
