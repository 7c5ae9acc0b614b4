use Rattle.std.proofs.Common.{sym, ◌∙◌}
use Rattle.std.proofs.lemmas.Bool.{cond-true}
use Rattle.std.proofs.lemmas.Nat.{and_mask}
use Rattle.bitrecord.proofs.words.last_of.Goals as goal

pub returns-then-HIGH : goal.returns-then-HIGH
returns-then-HIGH g c = rw c.power.ensures (and_mask c.args.word c.args.len) ∙ sym (cond-true _ _ _ (sym c.HIGH.ensures ∙ c.if-HIGH.true))
