use Rattle.std.proofs.Common.{◌+◌, length, inr, arith, sym, ap, ◌∙◌, length-append}
use Rattle.std.specs.Str.Lines.{lines}
use Rattle.std.proofs.lemmas.Bool.Decides.{nat_tests}
use Rattle.std.proofs.lemmas.Iterator.Consumers.{YieldsList-turn, YieldsList-end}
use Rattle.std.proofs.lemmas.List.FromFn.{length-enumerate_from}
use Rattle.bitdo_work.proofs.LineLaws.{HasRead-step, HasRead-empty, steps_of-HasRead, bad_line_of-HasRead}
use Rattle.bitdo_work.specs.declared.fault.Fault.TheVariants.{Line}
use Rattle.bitdo_work.proofs.SplitLaws.{YieldsList-from_numbered, numbered_turn}
use Rattle.bitdo_work.proofs.lines.parse_steps.Goals as goal

pub returns-in_default-clause-line : goal.returns-in_default-clause-line
returns-in_default-clause-line g c =
    let pieces = YieldsList-from_numbered c.args.text.now c.into_iter-index-iterator.ensures.into_iter_gives c.enumerate-index-items.ensures.source c.enumerate-index-items.ensures.count c.lines.ensures.rest in
    let t = YieldsList-turn pieces c.loop-index.yielded _ c.loop-index.yielded_by _ _ (c.in-Some.index, c.in-Some.line) c.in-Some.is c.next.ensures.steps in
    let at = numbered_turn (lines c.args.text.now) (length c.loop-index.yielded) c.in-Some.index c.in-Some.line.now t.0 t.1 in
    let bad = bad_line_of-HasRead c.args.text.now (length c.loop-index.yielded) c.loop-index.steps.items c.in-Some.line.now c.loop-index.invariant at.0 at.2 (grind (arith, nat_tests)) (sym c.in_default.ensures) in
    rw bad (inr (ap (λ index. Line (index + 1)) at.1))

pub loop-index-preserved : goal.loop-index-preserved
loop-index-preserved g c =
    let pieces = YieldsList-from_numbered c.args.text.now c.into_iter-index-iterator.ensures.into_iter_gives c.enumerate-index-items.ensures.source c.enumerate-index-items.ensures.count c.lines.ensures.rest in
    let t = YieldsList-turn pieces c.loop-index.yielded _ c.loop-index.yielded_by _ _ (c.in-Some.index, c.in-Some.line) c.in-Some.is c.next.ensures.steps in
    let at = numbered_turn (lines c.args.text.now) (length c.loop-index.yielded) c.in-Some.index c.in-Some.line.now t.0 t.1 in
    let read = HasRead-step (lines c.args.text.now) (length c.loop-index.yielded) c.loop-index.steps.items c.in-Some.line.now c.loop-index.invariant at.0 at.2 c.in-Some-parse_step.step
    (sym c.in-Some-parse_step.ensures) in
    rw (length-append, c.in_ok-push.ensures.items) read

pub loop-index-preserved-then-is_empty : goal.loop-index-preserved-then-is_empty
loop-index-preserved-then-is_empty g c =
    let pieces = YieldsList-from_numbered c.args.text.now c.into_iter-index-iterator.ensures.into_iter_gives c.enumerate-index-items.ensures.source c.enumerate-index-items.ensures.count c.lines.ensures.rest in
    let t = YieldsList-turn pieces c.loop-index.yielded _ c.loop-index.yielded_by _ _ (c.in-Some.index, c.in-Some.line) c.in-Some.is c.next.ensures.steps in
    let at = numbered_turn (lines c.args.text.now) (length c.loop-index.yielded) c.in-Some.index c.in-Some.line.now t.0 t.1 in
    let read = HasRead-empty (lines c.args.text.now) (length c.loop-index.yielded) c.loop-index.steps.items c.in-Some.line.now c.loop-index.invariant at.0 at.2 (grind (arith, nat_tests)) in
    rw length-append read

pub returns-clause-steps : goal.returns-clause-steps
returns-clause-steps g c =
    let pieces = YieldsList-from_numbered c.args.text.now c.into_iter-index-iterator.ensures.into_iter_gives c.enumerate-index-items.ensures.source c.enumerate-index-items.ensures.count c.lines.ensures.rest in
    let t = YieldsList-end pieces c.loop-index.yielded _ c.loop-index.yielded_by _ _ c.in-None.is c.next.ensures.steps in
    steps_of-HasRead c.args.text.now (length c.loop-index.yielded) c.loop-index.steps.items c.loop-index.invariant (t.1 ∙ length-enumerate_from 0 (lines c.args.text.now))
