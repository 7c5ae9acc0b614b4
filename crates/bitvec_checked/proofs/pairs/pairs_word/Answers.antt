use Rattle.std.proofs.Common.{arith, min, sym}
use Rattle.bitvec_base.specs.WritesLaws.{length-list, list-range}
use Rattle.bitvec_checked.proofs.PairLemmas.{no_pair, word-pairs}
use Rattle.bitvec_checked.specs.Pairs.{looks_for}
use Rattle.bitvec_checked.proofs.pairs.pairs_word.Goals as goal

pub returns : goal.returns
returns g c =
    let at = g.O.BitOrder.at in
    let left = length-list at c.requires.window in
    let right = length-list at c.requires.right_window in
    let end = c.args.right_window.len in
    let word = rw (c.range.ensures, c.new.ensures.numbers, list-range at c.args.from c.args.to c.requires.window c.requires.order c.requires.inside) at c.load_parts-word.ensures.value in
    let other = rw (c.range-part.ensures, c.min.ensures, c.min-2.ensures, c.new-2.ensures.numbers, list-range at (min c.args.from end) (min c.args.to end) c.requires.right_window (omega arith) (omega arith)) at c.load_parts-other.ensures.value in
    word-pairs at (looks_for c.args.pair) _ _ c.args.from c.args.to end _ _ _ (no_pair c.args.pair) (sym right) c.requires.order (omega arith) c.requires.few word other c.of_words.ensures
