use Rattle.std.proofs.Common.{◌≡◌, ◌+◌, ◌-◌, ◌<◌, ◌≤◌, false, slice_set, slice_index_or, arith, rules}
use Rattle.bitvec_base.specs.CopyLaws.{copied_within-none, copy-ascending, copy-descending}
use Rattle.bitvec_base.specs.WritesLaws.{length-list, Writes-start, Writes-next}
use Rattle.bitvec_passes.proofs.by_bits.bits_copy_within.Goals as goal
use Rattle.bitvec_passes.proofs.by_bits.bits_copy_within.Goals.{then-dest-from, else-dest-from}

pub loop-step-init : goal.loop-step-init
loop-step-init g c =
    let has = c.requires.window in
    let fits = c.requires.fits in
    let long = length-list g.O.BitOrder.at has in
    let from = c.args.from in
    let dest = c.args.dest in
    let many = c.args.to - from - 0 in
    record {
      ascending = λ h. Writes-start has (copied_within-none from (from + 0) dest _ (omega arith) (omega arith));
      descending = λ h. Writes-start has (copied_within-none (from + many) c.args.to (dest + many) _ (omega arith) (omega arith));
      cost = search rules;
    }

pub loop-step-preserved : goal.loop-step-preserved
loop-step-preserved g c =
    let has = c.requires.window in
    let fits = c.requires.fits in
    let inv = c.loop-step.invariant in
    let long = length-list g.O.BitOrder.at has in
    let from = c.args.from in
    let dest = c.args.dest in
    let step = c.loop-step.step in
    let left = c.args.to - from - step in
    let index = c.if-dest-from.index in
    let next : c.args.to - from - (step + 1) ≡ left - 1 = omega arith in
    let up : dest ≤ from → index ≡ step = λ h. elim c.if-dest-from.branch [ then-dest-from w ↦ w.index-is | else-dest-from w ↦ absurd (omega arith) ] in
    let down : from < dest → index ≡ left - 1 = λ h. elim c.if-dest-from.branch [ then-dest-from w ↦ absurd (omega arith) | else-dest-from w ↦ omega arith ] in
    let wrote = rw (c.get_bit-bit.ensures.reads.numbers, c.get_bit-bit.ensures.value) at c.replace_bit.ensures.writes in
    record {
      ascending = λ h. Writes-next (λ l. slice_set l (dest + step) (slice_index_or l (from + step) false)) has (inv.ascending h) (rw (up h) at wrote)
          (copy-ascending _ from dest step false h (omega arith));
      descending = λ h. rw next (Writes-next (λ l. slice_set l (dest + (left - 1)) (slice_index_or l (from + (left - 1)) false)) has (inv.descending h) (rw (down h) at wrote)
          (copy-descending _ from c.args.to dest left false (omega arith) (omega arith) (omega arith) (omega arith)));
      cost = search rules;
    }
