use Rattle.bitvec_lent_split.specs.Lent.{SplitNextBackIn}
use Rattle.bitvec_lent_split.proofs.LentLaws.{lends_so}
use Rattle.bitvec_lent_split.specs.LentViews.{found_in, left_in}
use Rattle.bitvec_lent_split.proofs.lending.SplitsMut+T+O+P+W+Every.next_back_mut.Goals as goal

pub returns-then-advance_back : goal.returns-then-advance_back
returns-then-advance_back g c =
    lends_so (SplitNextBackIn g.P.FnMut g.W.SplitKind.INCLUSIVE g.W.SplitKind.REVERSED (left_in c.args.self.now)) (found_in c.advance_back.new.self) _ (left_in c.advance_back.new.self)
    c.if-advance_back.ensures.piece c.if-advance_back.ensures.stays.view c.piece_mut.ensures.piece
