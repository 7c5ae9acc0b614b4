use Rattle.std.proofs.Common.{◌∙◌, arith, refl}
use Rattle.bitvec_words.specs.FieldLaws.{Writes-none}
use Rattle.bitvec_words.specs.WholeLaws.{window-same}
use Rattle.bitvec_combine.specs.PutLaws.{Puts-beside}
use Rattle.bitvec_combine.proofs.copying.copy.Goals as goal

pub returns-then-to-eq0-clause-writes : goal.returns-then-to-eq0-clause-writes
returns-then-to-eq0-clause-writes g c = Writes-none _ _ _ c.requires.window (omega arith) (omega arith)

pub returns-clause-writes : goal.returns-clause-writes
returns-clause-writes g c = Puts-beside c.requires (c.until-as_long.ensures ∙ window-same _ c.args.from refl (omega arith)) c.act.ensures.done
