use Rattle.std.proofs.Common.{sym, ◌∙◌}
use Rattle.bitrecord.proofs.Exponents.{split-low}
use Rattle.bitrecord.proofs.words.split_off.Goals as goal

pub returns-else-HIGH : goal.returns-else-HIGH
returns-else-HIGH g c = split-low _ c.args.word c.args.len _ (sym c.HIGH.ensures ∙ c.if-HIGH.false) c.power-power.ensures
