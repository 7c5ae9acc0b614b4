use Rattle.std.proofs.Common.{◌+◌, arith, map, refl}
use Rattle.bitvec_base.specs.Memory.{list_in}
use Rattle.bitvec_domain.specs.Predicates.{Asks}
use Rattle.bitvec_domain.specs.PredicatesLaws.{may_ask-next, may_ask-now, may_ask_of_fewer}
use Rattle.bitvec_owned.proofs.Kept.{Moved, moved-all, moved-no, moved-none, moved-window, moved-yes}
use Rattle.bitvec_owned.proofs.growing.retaining.move_kept.Goals as goal
use Rattle.bitvec_owned.proofs.growing.retaining.move_kept.Goals.{then-keeps, else-keeps}

pub loop-index-init : goal.loop-index-init
loop-index-init g c = record {
  moved = moved-none _ c.requires.window refl;
  callable = may_ask_of_fewer c.requires.callable (omega arith) (omega arith);
}

pub bit_in-bit-requires-clause-window : goal.bit_in-bit-requires-clause-window
bit_in-bit-requires-clause-window g c = moved-window _ c.requires.window c.loop-index.invariant.moved

pub pred-keeps-requires : goal.pred-keeps-requires
pred-keeps-requires g c = may_ask-now c.loop-index.invariant.callable (omega arith) _ _ (omega arith)

pub loop-index-preserved : goal.loop-index-preserved
loop-index-preserved g c =
    let inv = c.loop-index.invariant in
    let below = c.loop-index-test.true in
    let asks : Asks g.P.FnMut c.loop-index.pred c.loop-index.index c.bit_in-bit.result c.pred-keeps.result c.pred-keeps.new.self = record { shown = _; shows = refl; called = c.pred-keeps.ensures } in
    let moved : Moved g.P.FnMut c.args.pred g.T.BitStore.BITS g.O.BitOrder.at (map g.T.BitStore.value c.args.elements.now) c.args.window c.pred-keeps.new.self (map g.T.BitStore.value c.if-keeps.elements) (c.loop-index.index + 1) c.if-keeps.kept =
    elim c.if-keeps.branch [
      | then-keeps w ↦ rw (w.elements-is, w.kept-is)
          (moved-yes _ c.requires.window inv.moved below c.bit_in-bit.ensures _ (rw w.if-keeps.true at asks) w.set_in.ensures.writes)
      | else-keeps w ↦ rw (w.elements-is, w.kept-is)
          (moved-no _ c.requires.window inv.moved below c.bit_in-bit.ensures _ (rw w.if-keeps.false at asks))
    ] in
    record { moved = moved; callable = may_ask_of_fewer (may_ask-next inv.callable (omega arith) below asks) (omega arith) (omega arith) }

pub returns-clause-writes : goal.returns-clause-writes
returns-clause-writes g c =
    let done = c.loop-index.invariant.moved in
    (list_in g.T.BitStore.BITS g.O.BitOrder.at (map g.T.BitStore.value c.loop-index.elements) c.args.window, done.writes, moved-all _ c.requires.window done c.loop-index-test.false)
