use Rattle.std.proofs.Common.{Some, ◌≡◌, ◌+◌, ◌==◌, ◌&&◌, refl}
use Rattle.bitvec_domain.specs.PredicatesLaws.{may_ask_unfinished}
use Rattle.bitvec_lent_split.proofs.SplitStateLaws.{given-range}
use Rattle.bitvec_lent_split.proofs.split_state.SplitState.step_from.Goals.{then-INCLUSIVE, else-INCLUSIVE}
use Rattle.bitvec_lent_split.proofs.split_state.SplitState.step_from.Goals as goal

pub ask_row-requires : goal.ask_row-requires
ask_row-requires g c = rw (c.into_part.ensures.len, c.range-start.ensures.start, c.range-start.ensures.end) (may_ask_unfinished c.if-self.false c.requires)

pub returns-clause-piece : goal.returns-clause-piece
returns-clause-piece g c =
    let s = c.range-start.result.start in let rest = c.cut_row.result.1 in
    let none : c.if-INCLUSIVE.self ≡ (g.W.SplitKind.INCLUSIVE && (s + rest.start == s + rest.end)) = elim c.if-INCLUSIVE.branch [
      | then-INCLUSIVE w ↦ rw (w.self-is, ← c.INCLUSIVE.ensures, w.if-INCLUSIVE.true) refl
      | else-INCLUSIVE w ↦ rw (w.self-is, ← c.INCLUSIVE.ensures, w.if-INCLUSIVE.false) refl
    ] in
    rw (← c.range-start.ensures.start, ← c.range-start.ensures.end) (
      c.if-self.false,
      (
        Some c.in-Some.index,
        rw (c.into_part.ensures.bits, c.into_part.ensures.len) at c.in-Some.ensures.asked,
        given-range _ _ _ _ _ _ _ _ _ _ _ _ _ c.cut_row.ensures.row c.cut_row.ensures.beside c.range-start.ensures.order c.range-start.ensures.inside none,
      ),
    )
