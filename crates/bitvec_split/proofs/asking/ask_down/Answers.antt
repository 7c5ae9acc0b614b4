use Rattle.std.proofs.Common.{arith}
use Rattle.bitvec_slice.specs.Views.{seen}
use Rattle.bitvec_domain.specs.PredicatesLaws.{asked-no, asked-yes, downward-from, may_ask-next, may_ask-now, may_ask_of_fewer}
use Rattle.bitvec_split.proofs.asking.ask_down.Goals as goal

pub pred-requires : goal.pred-requires
pred-requires g c = may_ask-now c.loop-last.invariant.callable (omega arith) _ c.index.result (omega arith)

pub returns-then-pred-clause-callable : goal.returns-then-pred-clause-callable
returns-then-pred-clause-callable g c =
    may_ask_of_fewer (may_ask-next c.loop-last.invariant.callable (omega arith) (omega arith) (record { shown = c.index.result; shows = c.index.ensures; called = c.if-pred.ensures })) (omega arith) (omega arith)

pub loop-last-preserved : goal.loop-last-preserved
loop-last-preserved g c = record {
  callable = may_ask_of_fewer (may_ask-next c.loop-last.invariant.callable (omega arith) (omega arith) (record { shown = c.index.result; shows = c.index.ensures; called = c.if-pred.ensures })) (omega arith) (omega arith);
  asked = λ found last more. c.loop-last.invariant.asked found last
      (asked-no (seen c.args.bits).bits _ _ (downward-from _ (omega arith)) found last (record { shown = c.index.result; shows = c.index.ensures; called = c.if-pred.ensures }) more);
}

pub returns-then-pred-clause-asked : goal.returns-then-pred-clause-asked
returns-then-pred-clause-asked g c =
    c.loop-last.invariant.asked _ _
    (asked-yes (seen c.args.bits).bits _ _ (downward-from _ (omega arith)) (record { shown = c.index.result; shows = c.index.ensures; called = c.if-pred.ensures }))
