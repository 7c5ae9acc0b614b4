use Rattle.std.proofs.Common.{◌≡◌, ◌+◌, ◌*◌, ◌∙◌, arith, length, sym}
use Rattle.bitvec_base.specs.CompareLaws.{same-stretch}
use Rattle.bitvec_base.specs.WritesLaws.{length-list, list-after, list-range}
use Rattle.bitvec_elements.proofs.DifferenceLemmas.{differs-behind}
use Rattle.bitvec_elements.proofs.difference.common_blocks.Goals as goal

pub overflow_add-result : goal.overflow_add-result
overflow_add-result g c =
    let left = length-list g.W.BitOrder.at c.requires.window in
    let right = length-list g.P.BitOrder.at c.requires.right_window in
    let behind = rw (c.after-rest.ensures, c.after-other.ensures, list-after g.W.BitOrder.at c.loop-from.from c.requires.window (omega arith), list-after g.P.BitOrder.at c.loop-from.from c.requires.right_window (omega arith)) at c.common_words.ensures in
    let most = (differs-behind c.loop-from.from (omega arith) c.loop-from.invariant.same behind).bound in
    omega arith

pub returns-then-not-eq_blocks_in : goal.returns-then-not-eq_blocks_in
returns-then-not-eq_blocks_in g c =
    let left = length-list g.W.BitOrder.at c.requires.window in
    let right = length-list g.P.BitOrder.at c.requires.right_window in
    let behind = rw (c.after-rest.ensures, c.after-other.ensures, list-after g.W.BitOrder.at c.loop-from.from c.requires.window (omega arith), list-after g.P.BitOrder.at c.loop-from.from c.requires.right_window (omega arith)) at c.common_words.ensures in
    differs-behind c.loop-from.from (omega arith) c.loop-from.invariant.same behind

pub hold-held-requires-clause-room : goal.hold-held-requires-clause-room
hold-held-requires-clause-room g c =
    let all : g.T.BitStore.BITS * length c.loop-from.block ≡ c.room_of-room.result = rw c.loop-from.invariant.count (sym c.room_of-room.ensures.value) in
    rw c.range.ensures (omega arith)

pub loop-from-preserved : goal.loop-from-preserved
loop-from-preserved g c =
    let from = c.loop-from.from in
    let to = from + c.min-in-loop-from.result in
    let left = list-range g.W.BitOrder.at from to c.requires.window (omega arith) (omega arith) in
    let right = list-range g.P.BitOrder.at from to c.requires.right_window (omega arith) (omega arith) in
    let same = rw (c.range-in-loop-from.ensures, c.hold-held.ensures.bits, c.range.ensures, left, right) at c.eq_blocks_in.ensures in
    record {
      fits = omega arith;
      count = c.hold-held.ensures.count ∙ c.loop-from.invariant.count;
      same = same-stretch _ _ from to c.loop-from.invariant.same (sym same ∙ c.if-not-eq_blocks_in.false);
    }

pub returns : goal.returns
returns g c =
    let left = length-list g.W.BitOrder.at c.requires.window in
    let right = length-list g.P.BitOrder.at c.requires.right_window in
    record {
      same = λ k below. c.loop-from.invariant.same k (omega arith);
      bound = omega arith;
      differs = λ more. absurd (omega arith);
    }
