use Rattle.std.proofs.Common.{◌≡◌, ◌-◌}
use Rattle.bitvec.specs.LentPieces.{name_of_pieces, walk_of}
use Rattle.bitvec_examples.proofs.lent_known.fill_until_one.Given as goal

abbrev pub invariant-loop-piece : goal.invariant-loop-piece
invariant-loop-piece g l =
    ((walk_of l.chunks).back ≡ (walk_of l.initial.chunks).back) × ((walk_of l.chunks).view.window ≡ (walk_of l.initial.chunks).view.window) × (name_of_pieces l.chunks ≡ name_of_pieces l.initial.chunks)

abbrev pub decreases-loop-piece : goal.decreases-loop-piece
decreases-loop-piece g l = (walk_of l.chunks).back - (walk_of l.chunks).front
