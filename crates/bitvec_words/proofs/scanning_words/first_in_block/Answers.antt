use Rattle.std.proofs.Common.{arith, ◌∙◌, ap}
use Rattle.bitvec_base.specs.Lists.{first_place}
use Rattle.bitvec_words.proofs.OrderedLemmas.{block-lacks, block-ordered}
use Rattle.bitvec_words.proofs.WordScanLemmas.{list-pair}
use Rattle.bitvec_words.proofs.scanning_words.first_in_block.Goals as goal

pub returns-then-BITS-gt-BITS-clause-value : goal.returns-then-BITS-gt-BITS-clause-value
returns-then-BITS-gt-BITS-clause-value g c =
    let one = c.load-one.ensures in
    (rw (one.value, rw one.numbers at c.load-two.ensures.value) at c.first_in_pair.ensures)
    ∙ ap (first_place c.args.want) (list-pair g.C.Elem.BitStore.BITS c.args.first g.met.C.Elem.BitStore.width_law (omega arith) c.requires g.O.BitOrder.at)

pub returns-then-one-lacking-eq0-clause-value : goal.returns-then-one-lacking-eq0-clause-value
returns-then-one-lacking-eq0-clause-value g c =
    let b = g.C.Elem.BitStore.BITS in
    let width = g.met.C.Elem.BitStore.width_law in
    let one = c.load_elements-one.ensures in
    let second = c.load_word_behind-two.ensures.reads.numbers ∙ one.reads.numbers in
    let two = rw one.reads.numbers at c.load_word_behind-two.ensures.value in
    let three = rw second at c.load_word_behind-three.ensures.value in
    let four = rw (c.load_word_behind-three.ensures.reads.numbers ∙ second) at c.load_word_behind-four.ensures.value in
    block-lacks b g.O.BitOrder.at (g.met.O.BitOrder.permutes b width) _ c.args.first width (omega arith) c.requires c.args.want _ _ _ _ one.value two three four _ c.filled-lacking.ensures c.if-one-lacking-eq0.true

pub returns-clause-value : goal.returns-clause-value
returns-clause-value g c =
    let b = g.C.Elem.BitStore.BITS in
    let width = g.met.C.Elem.BitStore.width_law in
    let one = c.load_elements-one.ensures in
    let second = c.load_word_behind-two.ensures.reads.numbers ∙ one.reads.numbers in
    let two = rw one.reads.numbers at c.load_word_behind-two.ensures.value in
    let three = rw second at c.load_word_behind-three.ensures.value in
    let four = rw (c.load_word_behind-three.ensures.reads.numbers ∙ second) at c.load_word_behind-four.ensures.value in
    let all = block-ordered b g.O.BitOrder.at (g.met.O.BitOrder.permutes b width) _ c.args.first width (omega arith) c.requires c.args.want _ _ _ _ one.value two three four _ _ _ _ c.ordered-one.ensures c.ordered-two.ensures c.ordered-three.ensures c.ordered-four.ensures in
    c.first_of_four.ensures ∙ ap (first_place c.args.want) all
