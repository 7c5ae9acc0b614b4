use Rattle.std.proofs.Common.{◌≡◌, ℕ, ◌+◌, ◌<◌, arith, false, slice_index_or, true}
use Rattle.bitvec_base.specs.Lists.{stands_at}
use Rattle.bitvec_base.specs.Memory.{element_bits}
use Rattle.bitvec_base.specs.NeedleLaws.{stands-nowhere}
use Rattle.bitvec_base.specs.WritesLaws.{length-list}
use Rattle.bitvec_within.proofs.CandidateLemmas.{no-bit}
use Rattle.bitvec_within.proofs.StandingLemmas.{absent-next}
use Rattle.bitvec_within.proofs.needles.contains_by.Goals as goal
use Rattle.bitvec_within.proofs.needles.contains_by.Goals.{else-starts-ne0-via-then-starts-ne0+else-stands_from, else-starts-ne0-via-else-starts-ne0}

pub returns-then-right_window-left_window : goal.returns-then-right_window-left_window
returns-then-right_window-left_window g c =
    let left = length-list g.O.BitOrder.at c.requires.window in
    let right = length-list g.P.BitOrder.at c.requires.right_window in
    stands-nowhere _ _ 0 (omega arith) (λ k below. absurd (omega arith))

pub loop-from-preserved : goal.loop-from-preserved
loop-from-preserved g c =
    let inv = c.loop-from.invariant in
    let right = length-list g.P.BitOrder.at c.requires.right_window in
    let starts = c.candidates-starts.result in
    let none : (i : ℕ) → i < 64 → slice_index_or (element_bits 64 g.W.BitOrder.at starts) i false ≡ true → stands_at _ _ (c.loop-from.from + i) ≡ false =
    elim c.else-starts-ne0.branch [
      | else-starts-ne0-via-then-starts-ne0+else-stands_from w ↦ w.stands_from.ensures.absent w.if-stands_from.false
      | else-starts-ne0-via-else-starts-ne0 w ↦ λ i below set. let clear = no-bit g.W.BitOrder.at starts i below w.if-starts-ne0.false in cc
    ] in
    record {
      bound = omega arith;
      low = c.word_from-high.ensures;
      absent = absent-next g.W.BitOrder.at _ _ _ _ _ starts c.min-count.result c.loop-from.from inv.low c.word_from-high.ensures c.word_from-needle.ensures (omega arith) (omega arith) c.candidates-starts.ensures none inv.absent;
    }

pub returns : goal.returns
returns g c =
    let left = length-list g.O.BitOrder.at c.requires.window in
    let right = length-list g.P.BitOrder.at c.requires.right_window in
    stands-nowhere _ _ c.loop-from.from (omega arith) c.loop-from.invariant.absent
