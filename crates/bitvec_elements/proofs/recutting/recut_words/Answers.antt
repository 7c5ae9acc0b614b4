use Rattle.std.proofs.Common.{◌∙◌, arith, map, rules, sym}
use Rattle.bitvec_base.specs.Memory.{list_in}
use Rattle.bitvec_base.specs.WritesLaws.{length-list}
use Rattle.bitvec_elements.proofs.RecutLemmas.{word-recut}
use Rattle.bitvec_elements.proofs.StoreLemmas.{stretch-all, stretch-none}
use Rattle.bitvec_elements.proofs.recutting.recut_words.Goals as goal

pub loop-step-init : goal.loop-step-init
loop-step-init g c = record {
  writes = stretch-none _ _ _ _ c.args.to (list_in g.U.BitStore.BITS g.V.BitOrder.at (map g.U.BitStore.value c.args.right.now) c.args.from) c.requires.pair.window c.new-cells.ensures.numbers;
  borrow = search rules;
}

pub loop-step-preserved : goal.loop-step-preserved
loop-step-preserved g c = record {
  writes = word-recut g.V.BitOrder.at c.loop-step.step _ _ g.met.T.BitStore.width_law g.met.U.BitStore.width_law c.BITS.ensures c.BITS-2.ensures c.requires.narrow c.requires.right_narrow
      c.requires.pair c.requires.edge (omega arith) (omega arith) c.word_behind-word.ensures c.reordered-made.ensures c.loop-step.invariant.writes c.store_elements.ensures.writes;
  borrow = search rules;
}

pub returns : goal.returns
returns g c =
    let lengths = c.requires.pair.lengths in
    let whole = c.requires.whole in
    let long = length-list g.V.BitOrder.at c.requires.pair.beside ∙ sym lengths in
    let done = stretch-all c.args.to _ (omega arith) long c.loop-step.invariant.writes in
    record { writes = record { bits = search (rules, done.bits); long = done.long; elements = search (rules, done.elements) } }
