use Rattle.std.specs.Prelude.{Bool}
use Rattle.std.specs.Fn.{Called, Takes}
use Rattle.std.proofs.Common.{rules, sym, subst, arith}
use Rattle.bitvec_base.specs.WritesLaws.{length-list}
use Rattle.bitvec_domain.proofs.Answered.{answered-next, answered-none, answered-shown, answered-window, may-now, may-next}
use Rattle.bitvec_domain.proofs.answering.for_each_in.Goals as goal

pub loop-index-init : goal.loop-index-init
loop-index-init g c = record {
  answered = answered-none c.requires.window c.new-accessor.ensures.numbers;
  allowed = c.requires.callable;
  borrow = search rules;
}

pub get_bit-bit-requires-clause-window : goal.get_bit-bit-requires-clause-window
get_bit-bit-requires-clause-window g c = answered-window c.requires.window c.loop-index.invariant.answered

pub f-answer-requires : goal.f-answer-requires
f-answer-requires g c =
    let inv = c.loop-index.invariant in
    let more = c.loop-index-test.true in
    let bit = answered-shown c.requires.window inv.answered more c.get_bit-bit.ensures.value in
    let long = length-list g.O.BitOrder.at c.requires.window in
    subst (λ (b : Bool). Takes g.F.FnMut c.loop-index.f (c.loop-index.index, (b, tt))) (sym bit) (may-now inv.allowed (omega arith))

pub replace_bit-requires-clause-window : goal.replace_bit-requires-clause-window
replace_bit-requires-clause-window g c = rw c.get_bit-bit.ensures.reads.numbers (answered-window c.requires.window c.loop-index.invariant.answered)

pub loop-index-preserved : goal.loop-index-preserved
loop-index-preserved g c =
    let inv = c.loop-index.invariant in
    let more = c.loop-index-test.true in
    let bit = answered-shown c.requires.window inv.answered more c.get_bit-bit.ensures.value in
    let long = length-list g.O.BitOrder.at c.requires.window in
    let call = subst (λ (b : Bool). Called g.F.FnMut c.loop-index.f (c.loop-index.index, (b, tt)) c.f-answer.result c.f-answer.new.self) bit c.f-answer.ensures in
    record {
      answered = answered-next c.requires.window inv.answered more call (rw c.get_bit-bit.ensures.reads.numbers at c.replace_bit.ensures.writes);
      allowed = may-next inv.allowed (omega arith) call;
      borrow = search rules;
    }

pub returns : goal.returns
returns g c =
    let done = c.loop-index.invariant.answered in
    record { writes = (done.new, (c.loop-index.f, done.calls), record { bits = search (rules, done.bits); long = omega (arith, done.long); elements = search (rules, done.elements) }) }
