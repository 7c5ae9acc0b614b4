use Rattle.std.proofs.Common.{◌≡◌, ◌+◌, ◌≤◌, count_by, sum_by}
use Rattle.bitvec.specs.Window.{max_bits}
use Rattle.bitvec.specs.Views.{seen}
use Rattle.bitvec.specs.Left.{pieces_left}
use Rattle.bitvec_examples.proofs.adapters.ones_by_chunks.Given as goal

abbrev pub invariant-loop-piece : goal.invariant-loop-piece
invariant-loop-piece g l =
    (l.ones + sum_by (λ piece. count_by (λ bit. bit) piece.bits) (pieces_left l.piece-iterator) ≡ count_by (λ bit. bit) (seen l.fn.bits).bits)
    × (count_by (λ bit. bit) (seen l.fn.bits).bits ≤ max_bits)
