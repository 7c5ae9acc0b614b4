use Rattle.bitvec_elements.proofs.FromLemmas.{bits-from}
use Rattle.bitvec_elements.proofs.window_words.word_from.Goals as goal

pub returns : goal.returns
returns g c =
    let held = rw c.range.ensures at c.window_word.ensures in
    bits-from _ g.O.BitOrder.at g.W.BitOrder.at _ _ c.requires.window _ c.args.from c.min-start.ensures c.min-end.ensures held
