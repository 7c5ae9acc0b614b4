use Rattle.std.proofs.Common.{◌+◌, arith, map, ◌∙◌}
use Rattle.bitvec_base.specs.Lists.{combined}
use Rattle.bitvec_base.specs.ListsLaws.{length-combined}
use Rattle.bitvec_base.specs.Memory.{list_in}
use Rattle.bitvec_base.specs.WritesLaws.{length-list}
use Rattle.bitvec_checked.proofs.PairLemmas.{ones-end, ones-more, ones-most}
use Rattle.bitvec_checked.specs.Pairs.{looks_for}
use Rattle.bitvec_checked.proofs.pairs.count_pairs_in.Goals as goal

pub overflow_add-pairs : goal.overflow_add-pairs
overflow_add-pairs g c =
    let at = g.O.BitOrder.at in
    let first = list_in g.T.BitStore.BITS at (map g.T.BitStore.value c.args.elements.now) c.args.window in
    let list = combined (looks_for c.args.pair) first (list_in g.T.BitStore.BITS at (map g.T.BitStore.value c.args.right.now) c.args.right_window) in
    let from = c.loop-from.from in
    let to = from + c.min.result in
    let left = length-list at c.requires.window in
    let long = length-combined (looks_for c.args.pair) first (list_in g.T.BitStore.BITS at (map g.T.BitStore.value c.args.right.now) c.args.right_window) in
    let next = ones-more at g.met.O.BitOrder.permutes list from to c.pairs_word-word.result c.loop-from.pairs (omega arith) (omega (arith, long, left)) (omega arith) c.pairs_word-word.ensures c.loop-from.invariant.pairs in
    let most = ones-most list to (omega (arith, long, left)) in
    omega (arith, next, most, long, left)

pub loop-from-preserved : goal.loop-from-preserved
loop-from-preserved g c =
    let at = g.O.BitOrder.at in
    let first = list_in g.T.BitStore.BITS at (map g.T.BitStore.value c.args.elements.now) c.args.window in
    let right = list_in g.T.BitStore.BITS at (map g.T.BitStore.value c.args.right.now) c.args.right_window in
    let from = c.loop-from.from in
    let left = length-list at c.requires.window in
    let long = length-combined (looks_for c.args.pair) first right in
    record {
      fits = omega arith;
      pairs = ones-more at g.met.O.BitOrder.permutes (combined (looks_for c.args.pair) first right) from (from + c.min.result) c.pairs_word-word.result c.loop-from.pairs (omega arith) (omega (arith, long, left)) (omega arith) c.pairs_word-word.ensures c.loop-from.invariant.pairs;
    }

pub returns : goal.returns
returns g c =
    let left = length-list g.O.BitOrder.at c.requires.window in
    let all = length-combined (looks_for c.args.pair) (list_in g.T.BitStore.BITS g.O.BitOrder.at (map g.T.BitStore.value c.args.elements.now) c.args.window) (list_in g.T.BitStore.BITS g.O.BitOrder.at (map g.T.BitStore.value c.args.right.now) c.args.right_window) in
    c.loop-from.invariant.pairs ∙ ones-end _ c.loop-from.from (omega (arith, all, left))
