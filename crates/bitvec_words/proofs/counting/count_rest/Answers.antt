use Rattle.std.proofs.Common.{arith}
use Rattle.bitvec_store.specs.WidthLaws.{width_some}
use Rattle.bitvec_words.proofs.CostLemmas.{reads-sum}
use Rattle.bitvec_words.proofs.CountLemmas.{count-few, count-left}
use Rattle.bitvec_words.proofs.WordScanLemmas.{parted-blocks}
use Rattle.bitvec_words.proofs.counting.count_rest.Goals as goal

pub count_words-ones-requires : goal.count_words-ones-requires
count_words-ones-requires g c =
    record { window = rw c.pieces_of-words.ensures (parted-blocks _ 64 c.args.first c.args.count g.met.C.Elem.BitStore.width_law c.requires.window).front; narrow = c.requires.narrow }

pub overflow_add-result : goal.overflow_add-result
overflow_add-result g c =
    let width = g.met.C.Elem.BitStore.width_law in
    let parts = parted-blocks _ 64 c.args.first c.args.count width c.requires.window in
    let words = rw c.pieces_of-words.ensures at c.count_words-ones.ensures in
    let left = rw (c.left_behind-next.ensures, words.reads.numbers) at c.count_elements.ensures.value in
    let few = count-few g.O.BitOrder.at c.requires.window (count-left parts g.O.BitOrder.at (g.met.O.BitOrder.permutes _ width) (width_some _ width) words.value left) in
    omega arith

pub returns : goal.returns
returns g c =
    let width = g.met.C.Elem.BitStore.width_law in
    let parts = parted-blocks _ 64 c.args.first c.args.count width c.requires.window in
    let within = parts.within in
    let words = rw c.pieces_of-words.ensures at c.count_words-ones.ensures in
    let left = rw (c.left_behind-next.ensures, words.reads.numbers) at c.count_elements.ensures in
    record { value = count-left parts g.O.BitOrder.at (g.met.O.BitOrder.permutes _ width) (width_some _ width) words.value left.value; reads = reads-sum words.reads left.reads (omega arith) }
