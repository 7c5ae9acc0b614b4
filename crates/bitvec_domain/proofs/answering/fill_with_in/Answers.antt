use Rattle.std.proofs.Common.{rules, arith}
use Rattle.bitvec_domain.proofs.Answered.{answered-next, answered-none, answered-window, may-now, may-next}
use Rattle.bitvec_domain.proofs.answering.fill_with_in.Goals as goal

pub loop-index-init : goal.loop-index-init
loop-index-init g c = record {
  answered = answered-none c.requires.window c.new-accessor.ensures.numbers;
  allowed = c.requires.callable;
  borrow = search rules;
}

pub f-bit-requires : goal.f-bit-requires
f-bit-requires g c = may-now c.loop-index.invariant.allowed c.loop-index-test.true

pub replace_bit-requires-clause-window : goal.replace_bit-requires-clause-window
replace_bit-requires-clause-window g c = answered-window c.requires.window c.loop-index.invariant.answered

pub loop-index-preserved : goal.loop-index-preserved
loop-index-preserved g c =
    let inv = c.loop-index.invariant in
    let more = c.loop-index-test.true in
    let call = c.f-bit.ensures in
    record {
      answered = answered-next c.requires.window inv.answered more call c.replace_bit.ensures.writes;
      allowed = may-next inv.allowed more call;
      borrow = search rules;
    }

pub returns : goal.returns
returns g c =
    let done = c.loop-index.invariant.answered in
    record { writes = (done.new, (c.loop-index.f, done.calls), record { bits = search (rules, done.bits); long = omega (arith, done.long); elements = search (rules, done.elements) }) }
