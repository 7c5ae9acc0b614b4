use Rattle.std.proofs.Common.{◌≡◌, ◌+◌, arith, false, slice_index_or, sym, true, ◌∙◌}
use borrow.Author.Count.{below_more}
use Rattle.bitvec_base.specs.Lists.{stands_at}
use Rattle.bitvec_base.specs.ListsLaws.{stands_in-found}
use Rattle.bitvec_base.specs.Memory.{element_bits}
use Rattle.bitvec_within.proofs.CandidateLemmas.{bit-not_tested}
use Rattle.bitvec_within.proofs.StandingLemmas.{begins_inside}
use Rattle.bitvec_within.proofs.needles.stands_from.Goals as goal
use Rattle.bitvec_within.proofs.needles.stands_from.Goals.{else-starts-select-ne0-via-then-starts-select-ne0+else-stands_at_in, else-starts-select-ne0-via-else-starts-select-ne0}

pub loop-index-init : goal.loop-index-init
loop-index-init g c i below = absurd (omega arith)

pub returns-then-stands_at_in-clause-found : goal.returns-then-stands_at_in-clause-found
returns-then-stands_at_in-clause-found g c told =
    let there = sym c.stands_at_in.ensures ∙ c.if-stands_at_in.true in
    stands_in-found _ _ _ (begins_inside _ _ _ there) there

pub loop-index-preserved : goal.loop-index-preserved
loop-index-preserved g c =
    let index = c.loop-index.index in
    below_more (λ i. slice_index_or (element_bits 64 g.W.BitOrder.at c.args.starts) i false ≡ true → stands_at _ _ (c.args.from + i) ≡ false) index c.loop-index.invariant (λ set.
    elim c.else-starts-select-ne0.branch [
      | else-starts-select-ne0-via-then-starts-select-ne0+else-stands_at_in w ↦ sym w.stands_at_in.ensures ∙ w.if-stands_at_in.false
      | else-starts-select-ne0-via-else-starts-select-ne0 w ↦ let clear = bit-not_tested g.W.BitOrder.at c.args.starts index c.loop-index-test.true (rw c.select.ensures at w.if-starts-select-ne0.false) in cc
    ])

pub returns-then-stands_at_in-clause-absent : goal.returns-then-stands_at_in-clause-absent
returns-then-stands_at_in-clause-absent g c told i below set = cc

pub returns-clause-found : goal.returns-clause-found
returns-clause-found g c told = cc

pub returns-clause-absent : goal.returns-clause-absent
returns-clause-absent g c told i below set = c.loop-index.invariant i (omega arith) set
