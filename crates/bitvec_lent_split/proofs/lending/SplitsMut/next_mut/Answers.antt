use Rattle.bitvec_lent_split.proofs.LentLaws.{lends_next, lends_nothing}
use Rattle.bitvec_lent_split.specs.LentViews.{found_in, limited_in}
use Rattle.bitvec_lent_split.proofs.lending.SplitsMut.next_mut.Goals as goal

pub returns-then-advance : goal.returns-then-advance
returns-then-advance g c =
    lends_next g.T.BitStore.BITS g.P.FnMut g.W.SplitKind.INCLUSIVE g.W.SplitKind.REVERSED (limited_in c.args.self.now) (limited_in c.advance.new.self) g.L.SplitLimit.LIMITED (found_in c.advance.new.self) _
    c.if-advance.ensures.piece c.if-advance.ensures.stays.view c.piece_mut.ensures.piece

pub returns-else-advance : goal.returns-else-advance
returns-else-advance g c =
    lends_nothing g.T.BitStore.BITS g.P.FnMut g.W.SplitKind.INCLUSIVE g.W.SplitKind.REVERSED (limited_in c.args.self.now) (limited_in c.advance.new.self) g.L.SplitLimit.LIMITED c.if-advance.ensures.piece
