use Rattle.std.proofs.Common.{sym, ◌∙◌}
use Rattle.bitvec_words.proofs.LaneLemmas.{between-high, between-low}
use Rattle.bitvec_words.proofs.lanes.words_between.Goals as goal

pub returns-then-HIGH-clause-between : goal.returns-then-HIGH-clause-between
returns-then-HIGH-clause-between g c = between-high (sym c.HIGH.ensures ∙ c.if-HIGH.true) c.requires.first c.requires.second

pub returns-clause-between : goal.returns-clause-between
returns-clause-between g c = between-low (sym c.HIGH.ensures ∙ c.if-HIGH.false) c.requires.first c.requires.second
