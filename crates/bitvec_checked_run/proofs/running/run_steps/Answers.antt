use Rattle.std.proofs.Common.{rules, refl, sym, ◌∙◌, ◌<◌, length, map}
use Rattle.std.proofs.lemmas.List.{get_or-map, length-map}
use Rattle.bitvec_run.specs.FieldRows.{field_outcome}
use Rattle.bitvec_run.specs.RanLaws.{Ran-next, list-whole}
use Rattle.bitvec_base.specs.Memory.{list_in, memory_bits}
use Rattle.bitvec_base.specs.WritesLaws.{Writes-nothing}
use Rattle.bitvec_checked_run.specs.Steps.{raw_reply, step_of}
use Rattle.bitvec_checked_run.specs.declared.steps.RawStep.{RawStep}
use Rattle.bitvec_checked_run.proofs.RunLemmas.{has-place, raw-next, rest-next}
use Rattle.bitvec_checked_run.proofs.running.run_steps.Goals as goal

pub loop-index-init : goal.loop-index-init
loop-index-init g c = record {
  ran = record { replies = search rules; writes = Writes-nothing _ _ c.requires.memories.has_window refl };
  raw = search rules;
  rest = search rules;
  right = refl;
  borrow = refl;
  count = refl;
}

pub loop-index-preserved : goal.loop-index-preserved
loop-index-preserved g c =
    let inv = c.loop-index.invariant in
    let b = g.C.Elem.BitStore.BITS in
    let place = g.O.BitOrder.at in
    let beside = g.D.CellsRead.numbers c.args.right.now in
    let row = field_outcome g.O.WordOrder.HIGH b c.args.window.start (memory_bits b place beside) in
    let list = list_in b place (g.C.CellsRead.numbers c.args.cells.now) c.args.window in
    let steps = map step_of c.args.steps.now in
    let i = c.loop-index.index in
    let inside = c.loop-index-test.true in
    let below : i < length steps = rw (length-map c.args.steps.now step_of) inside in
    let none : RawStep = record { from = 0; to = 0; first = 0; second = 0; third = 0; op = 0; bit = 0 } in
    let step = sym (get_or-map step_of c.args.steps.now i none (step_of none) inside) in
    let did = rw (c.whole-source.ensures, inv.right, list-whole b place beside, c.step-next.ensures, step) at c.carry_out-reply.ensures.left in
    let next = Ran-next g.C.CellsRead row b place g.O.SliceOrder.WORDS list steps i _ c.args.window _ _ _ _ _ c.requires.memories.has_window below inv.ran did in
    record {
      ran = record { replies = refl; writes = next.writes };
      raw = raw-next raw_reply _ _ c.carry_out-reply.result c.loop-index.replies i c.new.result (has-place _ _ _ _ inside c.requires.fit.room inv.count) inv.raw c.new.ensures (sym next.replies);
      rest = rest-next c.loop-index.replies c.args.replies.now i c.new.result inv.rest;
      right = c.carry_out-reply.ensures.right.numbers ∙ inv.right;
      borrow = c.carry_out-reply.ensures.left.cost.borrow ∙ inv.borrow;
      count = search rules;
    }
