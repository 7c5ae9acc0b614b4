use Rattle.std.proofs.Common.{subst, sym}
use Rattle.bitvec_domain.specs.Asked.{FillsWith}
use Rattle.bitvec_in_place.proofs.Windows.{written_outside, written_range}
use Rattle.bitvec_in_place.proofs.answering.fill_with.Goals as goal

pub returns-clause-answers : goal.returns-clause-answers
returns-clause-answers g c =
    let wrote = c.fill_with_in.ensures.writes in
    subst (FillsWith g.F.FnMut c.args.f) (sym (written_range _ _ _ _ _ _ _ _ _ c.span_in-window.ensures.is c.requires.range.order c.requires.range.inside wrote.2)) wrote.1

pub returns-clause-outside : goal.returns-clause-outside
returns-clause-outside g c = written_outside _ _ _ _ _ _ _ _ _ c.span_in-window.ensures.is c.requires.range.order c.requires.range.inside c.fill_with_in.ensures.writes.2
