-- How far a split of a view has come, as contracts see it.
use Rattle.std.specs.Prelude.{min}
use Rattle.bitvec_slice.specs.Seen.{Seen}
use Rattle.bitvec_lent_split.specs.Lent.{LeftIn, LimitedSplitIn}
use Rattle.bitvec_lent_split.specs.declared.split_state.SplitState.{SplitState}

-- What a split of the view has left; an index behind the view's end stands for its end.
abbrev pub left_on : {T P W L : Type 0} → Seen T → SplitState P W L → LeftIn T P
left_on view c =
    let to = min c.to view.window.len in
    record { view = view; from = min c.from to; to = to; finished = c.finished; pred = c.pred }

-- What a split of the view has left, and how many pieces it may still give.
abbrev pub limited_on : {T P W L : Type 0} → Seen T → SplitState P W L → LimitedSplitIn T P
limited_on view c = record { left = left_on view c; count = c.count }
