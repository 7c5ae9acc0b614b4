use Rattle.std.proofs.Common.{◌/◌}
use Rattle.bitvec_store.specs.WidthLaws.{width_some}
use Rattle.bitvec_words.specs.WholeLaws.{elements-inside}
use Rattle.bitvec_words.proofs.SliceWordLemmas.{word-loaded}
use Rattle.bitvec_words.proofs.word_elements.load_elements.Goals as goal

pub load_word-requires : goal.load_word-requires
load_word-requires g c =
    let b = g.C.Elem.BitStore.BITS in
    elements-inside c.args.first (64 / b) (width_some b g.met.C.Elem.BitStore.width_law) c.requires.window

pub returns-clause-value : goal.returns-clause-value
returns-clause-value g c =
    let b = g.C.Elem.BitStore.BITS in
    let width = g.met.C.Elem.BitStore.width_law in
    word-loaded g.O.WordOrder.HIGH b g.O.BitOrder.at g.met.O.WordOrder.ends_law (g.met.O.BitOrder.permutes b width) width c.requires.narrow
    (g.C.CellsRead.numbers c.args.cells.now) c.args.first _ _ c.requires.window c.ordered.ensures c.load_word.ensures.digits
