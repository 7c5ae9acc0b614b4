use Rattle.std.proofs.Common.{◌+◌, ◌≤◌, arith, map, refl, rules, sym, ◌∙◌}
use Rattle.bitvec_base.specs.Memory.{list_in}
use Rattle.bitvec_base.specs.WritesLaws.{length-list}
use Rattle.bitvec_elements.proofs.StoreLemmas.{copied-stretch, range-inside, range-kept, stretch-all, stretch-none, stretch-stored}
use Rattle.bitvec_elements.proofs.copying.copy_words.Goals as goal

pub loop-start-init : goal.loop-start-init
loop-start-init g c = record {
  fits = omega arith;
  writes = stretch-none _ _ _ _ c.args.to (list_in g.U.BitStore.BITS g.P.BitOrder.at (map g.U.BitStore.value c.args.right.now) c.args.from) c.requires.window c.new-cells.ensures.numbers;
  borrow = search rules;
}

pub window_word-word-requires-clause-window : goal.window_word-word-requires-clause-window
window_word-word-requires-clause-window g c = range-inside _ _ c.requires.beside c.range.ensures (omega arith) (let lengths = c.requires.lengths in omega arith)

pub store_parts-requires-clause-window : goal.store_parts-requires-clause-window
store_parts-requires-clause-window g c =
    range-kept _ _ _ _ _ _ _ c.requires.window c.loop-start.invariant.writes.elements c.range-in-loop-start.ensures (omega arith) (omega arith)

pub loop-start-preserved : goal.loop-start-preserved
loop-start-preserved g c =
    let inv = c.loop-start.invariant in
    let start = c.loop-start.start in
    let end = start + c.min.result in
    let bound : end ≤ c.args.to.len = omega arith in
    let lengths = c.requires.lengths in
    let right = length-list g.P.BitOrder.at c.requires.beside in
    let word = rw c.range.ensures at c.window_word-word.ensures in
    record {
      fits = bound;
      writes = stretch-stored _ _ start end c.requires.window (omega arith) bound (right ∙ sym lengths) c.range-in-loop-start.ensures refl
          (copied-stretch g.W.BitOrder.at g.P.BitOrder.at start end _ c.requires.beside (omega arith) (omega arith) refl word)
          inv.writes c.store_parts.ensures.writes;
      borrow = search rules;
    }

pub returns : goal.returns
returns g c =
    let inv = c.loop-start.invariant in
    let right = length-list g.P.BitOrder.at c.requires.beside in
    let list = list_in g.U.BitStore.BITS g.P.BitOrder.at (map g.U.BitStore.value c.args.right.now) c.args.from in
    let done = stretch-all c.args.to {list = list} c.loop-start.start (omega arith) (right ∙ sym c.requires.lengths) inv.writes in
    record { writes = record { bits = search (rules, done.bits); long = done.long; elements = search (rules, done.elements) } }
