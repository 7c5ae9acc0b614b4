use Rattle.bitvec_lent_split.specs.Lent.{MayGoOnIn, NextIn, unsplit_in}
use Rattle.bitvec_closures.specs.ToSplit.{left_at, limited_at, most_left}
use Rattle.bitvec_closures.proofs.SplitCallsLaws.{CallsSoFar}
use Rattle.bitvec_closures.proofs.edit_splits.EditSplits.for_each_piece_of.Given as goal

abbrev pub invariant-loop-range : goal.invariant-loop-range
invariant-loop-range g l =
    let shows = g.Self.Shows.shows in
    let view = shows l.fn.self in
    record {
      in_turn : CallsSoFar shows g.Self.EditParts.named (goal.F-step g) l.fn.self (NextIn g.P.FnMut g.W.SplitKind.INCLUSIVE g.W.SplitKind.REVERSED g.L.SplitLimit.LIMITED)
          (record { left = unsplit_in g.W.SplitKind.INCLUSIVE view l.fn.pred; count = l.fn.count }) l.fn.edit (limited_at view l.left l.count l.pred) l.left l.self l.edit l.number;
      callable : MayGoOnIn g.P.FnMut (left_at view l.left l.pred);
    }

abbrev pub decreases-loop-range : goal.decreases-loop-range
decreases-loop-range g l = most_left l.left
