use Rattle.std.specs.Prelude.{true, refl}
use Rattle.bitvec_iter.proofs.LentPiecesLaws.{part-at, same-lent}
use Rattle.bitvec_iter.proofs.lent_pieces.PiecesMut.take_remainder.Goals as goal

pub returns : goal.returns
returns g c =
    let p = c.args.self.now in ((refl, same-lent p p.front p.back true c.remainder-range.ensures _ _ _ _), record { writes_back = tt; rest = part-at c.remainder-range.ensures c.part_mut.ensures.part })
