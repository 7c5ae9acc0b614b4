use Rattle.std.proofs.Common.{arith, refl}
use Rattle.bitvec_words.specs.FieldLaws.{first_part-long}
use Rattle.bitvec_move.proofs.head_of.Goals as goal

pub len-requires : goal.len-requires
len-requires g c = rw c.first_part-part.ensures (omega arith)

pub returns-clause-long : goal.returns-clause-long
returns-clause-long g c = first_part-long c.args.window c.len.ensures c.first_part-part.ensures refl

pub returns-clause-fits : goal.returns-clause-fits
returns-clause-fits g c = rw (c.len.ensures, c.first_part-part.ensures) (omega arith)
