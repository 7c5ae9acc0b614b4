use Rattle.std.proofs.Common.{arith}
use Rattle.bitvec.specs.Laws.{lengths}
use Rattle.bitmatrix.proofs.RowLaws.{sets-entry}
use Rattle.bitmatrix.proofs.matrix.connect.Goals as goal

pub returns-clause-sets : goal.returns-clause-sets
returns-clause-sets g c = sets-entry c.args.n c.args.i c.args.j _ _ c.set.ensures.bits (grind (arith, lengths)) c.requires.row c.requires.column
