use Rattle.std.proofs.Common.{◌≡◌, ◌+◌, arith, map, sym}
use Rattle.std.proofs.lemmas.Nat.{ones_le_self}
use Rattle.bitvec_base.specs.Lists.{combined}
use Rattle.bitvec_base.specs.ListsLaws.{length-combined}
use Rattle.bitvec_base.specs.Memory.{list_in}
use Rattle.bitvec_base.specs.WritesLaws.{length-list}
use Rattle.bitvec_checked.proofs.PairLemmas.{ones-more, pair-found, pair-none}
use Rattle.bitvec_checked.specs.Pairs.{looks_for}
use Rattle.bitvec_checked.proofs.pairs.no_pair_in.Goals as goal

pub returns-then-word-ne0 : goal.returns-then-word-ne0
returns-then-word-ne0 g c =
    let at = g.O.BitOrder.at in
    let first = list_in g.T.BitStore.BITS at (map g.T.BitStore.value c.args.elements.now) c.args.window in
    let right = list_in g.T.BitStore.BITS at (map g.T.BitStore.value c.args.right.now) c.args.right_window in
    let from = c.loop-from.from in
    let left = length-list at c.requires.window in
    let long = length-combined (looks_for c.args.pair) first right in
    pair-found at g.met.O.BitOrder.permutes (combined (looks_for c.args.pair) first right) from (from + c.min.result) c.pairs_word-word.result (omega arith) (omega (arith, long, left)) (omega arith) c.pairs_word-word.ensures (λ none. absurd (omega arith))

pub loop-from-preserved : goal.loop-from-preserved
loop-from-preserved g c =
    let at = g.O.BitOrder.at in
    let first = list_in g.T.BitStore.BITS at (map g.T.BitStore.value c.args.elements.now) c.args.window in
    let right = list_in g.T.BitStore.BITS at (map g.T.BitStore.value c.args.right.now) c.args.right_window in
    let from = c.loop-from.from in
    let left = length-list at c.requires.window in
    let long = length-combined (looks_for c.args.pair) first right in
    let zero : c.pairs_word-word.result ≡ 0 = omega arith in
    let ones = ones_le_self c.pairs_word-word.result in
    let next = ones-more at g.met.O.BitOrder.permutes (combined (looks_for c.args.pair) first right) from (from + c.min.result) c.pairs_word-word.result 0 (omega arith) (omega (arith, long, left)) (omega arith) c.pairs_word-word.ensures (sym c.loop-from.invariant.none) in
    record { fits = omega arith; none = omega (arith, next, ones, zero) }

pub returns : goal.returns
returns g c =
    let left = length-list g.O.BitOrder.at c.requires.window in
    let all = length-combined (looks_for c.args.pair) (list_in g.T.BitStore.BITS g.O.BitOrder.at (map g.T.BitStore.value c.args.elements.now) c.args.window) (list_in g.T.BitStore.BITS g.O.BitOrder.at (map g.T.BitStore.value c.args.right.now) c.args.right_window) in
    pair-none _ c.loop-from.from (omega (arith, all, left)) c.loop-from.invariant.none
