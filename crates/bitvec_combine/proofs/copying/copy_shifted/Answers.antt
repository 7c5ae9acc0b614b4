use Rattle.std.proofs.Common.{refl}
use Rattle.bitvec_combine.specs.PutLaws.{Puts-beside}
use Rattle.bitvec_combine.proofs.copying.copy_shifted.Goals as goal

pub returns-clause-writes : goal.returns-clause-writes
returns-clause-writes g c = Puts-beside c.requires.span refl c.act_short.ensures.done
