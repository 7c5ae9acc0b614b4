use Rattle.std.proofs.Common.{◌∙◌, arith, refl}
use Rattle.bitvec_words.specs.WholeLaws.{window-same}
use Rattle.bitvec_combine.specs.PutLaws.{Puts-beside}
use Rattle.bitvec_combine.proofs.copying.copy_equal.Goals as goal

pub returns-clause-writes : goal.returns-clause-writes
returns-clause-writes g c = Puts-beside c.requires.span (c.until-as_long.ensures ∙ window-same _ c.args.from refl (omega arith)) c.act_phased.ensures.done
