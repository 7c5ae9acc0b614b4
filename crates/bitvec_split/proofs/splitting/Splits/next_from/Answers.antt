use Rattle.std.proofs.Common.{Some, arith, inr, rules}
use Rattle.bitvec_domain.specs.PredicatesLaws.{may_ask_of_fewer, may_ask_unfinished}
use Rattle.bitvec_split.proofs.RowLaws.{left-kept}
use Rattle.bitvec_split.proofs.splitting.Splits.next_from.Goals as goal

pub ask_row-requires : goal.ask_row-requires
ask_row-requires g c = may_ask_unfinished c.if-self.false c.requires

pub returns-clause-piece : goal.returns-clause-piece
returns-clause-piece g c =
    let row = rw c.len.ensures.window at c.cut_row.ensures.row in
    (c.if-self.false, (Some c.in-Some.index, c.in-Some.ensures.asked, record { gives = rw (row.start, row.end) at c.into_part.ensures; keeps = rw (row.from, row.to) at c.into_part-self.ensures; finished = search rules }))

pub returns-clause-callable : goal.returns-clause-callable
returns-clause-callable g c =
    let kept = left-kept g.W.SplitKind.INCLUSIVE c.args.back _ _ c.in-Some.index _ _ c.len.ensures.window c.cut_row.ensures.row in
    inr (λ going. may_ask_of_fewer c.in-Some.ensures.callable (omega (arith, kept, c.into_part-self.ensures.len)) (omega (arith, kept, c.into_part-self.ensures.len)))
