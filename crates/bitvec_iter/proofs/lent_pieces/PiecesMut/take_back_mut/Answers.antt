use Rattle.std.specs.Prelude.{◌-◌, refl}
use Rattle.std.proofs.Common.{arith}
use Rattle.bitvec_iter.proofs.LentPiecesLaws.{part-at, same-lent}
use Rattle.bitvec_iter.proofs.lent_pieces.PiecesMut.take_back_mut.Goals as goal

pub piece-range-requires : goal.piece-range-requires
piece-range-requires g c = omega (arith, c.args.self.now.numbered)

pub returns : goal.returns
returns g c =
    let p = c.args.self.now in ((refl, same-lent p p.front (p.back - 1) p.taken c.piece-range.ensures _ _ _ _), record { writes_back = tt; piece = part-at c.piece-range.ensures c.part_mut.ensures.part })
