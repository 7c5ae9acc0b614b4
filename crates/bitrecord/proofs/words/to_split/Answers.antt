use Rattle.std.proofs.Common.{sym, ◌∙◌}
use Rattle.std.proofs.lemmas.Bool.{cond-true}
use Rattle.bitrecord.proofs.Exponents.{moved-kept}
use Rattle.bitrecord.proofs.words.to_split.Goals as goal

pub returns-then-HIGH : goal.returns-then-HIGH
returns-then-HIGH g c = moved-kept c.args.number c.args.len c.requires.fits c.requires.bound ∙ sym (cond-true _ _ _ (sym c.HIGH.ensures ∙ c.if-HIGH.true))
