use Rattle.bitvec_words.specs.WholeLaws.{whole-all}
use Rattle.bitvec_within.proofs.combining_within.whole.Goals as goal

pub returns : goal.returns
returns g c = rw c.BITS-each.ensures (whole-all _ _ c.requires)
