use Rattle.std.proofs.Common.{subst, sym}
use Rattle.bitvec_domain.specs.Asked.{CallableOnBits}
use Rattle.bitvec_in_place.proofs.Refilled.{refilled_range}
use Rattle.bitvec_in_place.proofs.Windows.{written_outside}
use Rattle.bitvec_in_place.proofs.answering.for_each.Goals as goal

pub for_each_in-requires-clause-callable : goal.for_each_in-requires-clause-callable
for_each_in-requires-clause-callable g c =
    subst (CallableOnBits g.F.FnMut c.args.f) (sym c.span_in-window.ensures.bits) c.requires.callable

pub returns-clause-answers : goal.returns-clause-answers
returns-clause-answers g c =
    let wrote = c.for_each_in.ensures.writes in
    refilled_range g.F.FnMut c.args.f _ _ _ _ _ _ _ _ _ c.span_in-window.ensures.is c.requires.range.order c.requires.range.inside wrote.1 wrote.2

pub returns-clause-outside : goal.returns-clause-outside
returns-clause-outside g c = written_outside _ _ _ _ _ _ _ _ _ c.span_in-window.ensures.is c.requires.range.order c.requires.range.inside c.for_each_in.ensures.writes.2
