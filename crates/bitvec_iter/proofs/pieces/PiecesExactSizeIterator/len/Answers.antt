use Rattle.std.proofs.Common.{sym, ◌∙◌}
use Rattle.bitvec_iter.proofs.LeftLaws.{left_length}
use Rattle.bitvec_iter.proofs.pieces.PiecesExactSizeIterator.len.Goals as goal

pub returns : goal.returns
returns g c = record { finite = tt; value = c.len.ensures.value ∙ sym (left_length c.args.self.now) }
