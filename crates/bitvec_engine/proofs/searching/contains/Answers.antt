use Rattle.std.proofs.Common.{◌≡◌, false, arith, rules, sym, ◌∙◌}
use Rattle.bitvec_base.specs.Lists.{stands_at}
use Rattle.bitvec_base.specs.ListsLaws.{stands_in-found}
use Rattle.bitvec_base.specs.NeedleLaws.{stands-nowhere}
use Rattle.bitvec_base.specs.WritesLaws.{length-list}
use Rattle.bitvec_engine.proofs.NeedleLemmas.{cost-more, reads-found, stands-found}
use Rattle.bitvec_engine.proofs.searching.contains.Goals as goal
use borrow.Author.Count.{below_more}

pub returns-then-block_eq-clause-value : goal.returns-then-block_eq-clause-value
returns-then-block_eq-clause-value g c =
    let inv = c.loop-from.invariant in
    let left = length-list g.O.BitOrder.at c.requires.window in
    let right = length-list g.O.BitOrder.at c.requires.right_window in
    let here = stands-found g.O.BitOrder.at g.O.BitOrder.at c.loop-from.from c.requires.window c.requires.right_window (omega arith) inv.reads.numbers inv.right.numbers c.range-part.ensures c.block_eq.ensures.value in
    sym (stands_in-found _ _ c.loop-from.from (omega arith) (here ∙ c.if-block_eq.true))

pub returns-then-block_eq-clause-reads : goal.returns-then-block_eq-clause-reads
returns-then-block_eq-clause-reads g c = reads-found _ _ _ c.loop-from.invariant.reads c.block_eq.ensures.reads (rw c.range-part.ensures (omega arith)) (omega arith)

pub returns-then-block_eq-clause-right : goal.returns-then-block_eq-clause-right
returns-then-block_eq-clause-right g c = reads-found _ _ _ c.loop-from.invariant.right c.block_eq.ensures.right (rw c.range-part.ensures (omega arith)) (omega arith)

pub loop-from-preserved : goal.loop-from-preserved
loop-from-preserved g c =
    let inv = c.loop-from.invariant in
    let here = stands-found g.O.BitOrder.at g.O.BitOrder.at c.loop-from.from c.requires.window c.requires.right_window (omega arith) inv.reads.numbers inv.right.numbers c.range-part.ensures c.block_eq.ensures.value in
    record {
      absent = below_more (λ k. stands_at _ _ k ≡ false) c.loop-from.from inv.absent (here ∙ c.if-block_eq.false);
      reads = search (rules, cost-more);
      right = search (rules, cost-more);
    }

pub returns-clause-value : goal.returns-clause-value
returns-clause-value g c =
    let left = length-list g.O.BitOrder.at c.requires.window in
    let right = length-list g.O.BitOrder.at c.requires.right_window in
    stands-nowhere _ _ c.loop-from.from (omega arith) c.loop-from.invariant.absent
