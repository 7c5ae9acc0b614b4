use Rattle.std.proofs.Common.{◌-◌, ◌∙◌, ap, arith}
use Rattle.bitvec_within.proofs.Combining.{none-combined, turn-first, turn-last}
use Rattle.bitvec_within.proofs.combining_within.combine_blocks.Goals.{then-left, else-left}
use Rattle.bitvec_within.proofs.combining_within.combine_blocks.Goals as goal

pub loop-left-preserved : goal.loop-left-preserved
loop-left-preserved g c =
    let at = g.O.BitOrder.at in
    let inv = c.loop-left.invariant in
    let left = c.loop-left.left in
    let count = c.min-count.result in
    let wrote = c.combine_aside.ensures.combines in
    elim c.if-left.branch [
      | then-left w ↦
          let turn = turn-last (left.len - count) inv.ranges (omega arith) (let order = w.if-left.true in omega arith) (w.parts-is ∙ ap (λ p. (p.1, p.0)) w.split_at.ensures) wrote in
          record { ranges = turn.0; done = turn.1 ∙ inv.done; kept = wrote.elements ∙ inv.kept }
      | else-left w ↦
          let turn = turn-first count inv.ranges (omega arith) w.if-left.false (w.parts-is ∙ w.split_at-parts.ensures) wrote in
          record { ranges = turn.0; done = turn.1 ∙ inv.done; kept = wrote.elements ∙ inv.kept }
    ]

pub returns : goal.returns
returns g c =
    let inv = c.loop-left.invariant in
    let none = none-combined g.O.BitOrder.at c.args.op inv.ranges (omega arith) in
    record { combines = record { bits = none.bits ∙ inv.done; elements = inv.kept } }
