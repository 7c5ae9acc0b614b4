use Rattle.std.proofs.Common.{◌≡◌, ℕ, ◌+◌, ◌*◌, ◌/◌, ◌<◌, ◌≤◌, arith, ap, refl, sym, ◌∙◌, length, slice_range}
use Rattle.std.proofs.lemmas.Nat.{mod-mul-add}
use Rattle.bitvec_base.specs.Memory.{element_bits, memory_bits}
use Rattle.bitvec_base.specs.MemoryLaws.{element-range, element_fits, length-memory_bits}
use Rattle.bitvec_base.specs.Window.{window_of}
use Rattle.bitvec_words.specs.AcrossLaws.{word-across}
use Rattle.bitvec_words.specs.Elements.{elements_window, elements_window_from}
use Rattle.bitvec_words.specs.FieldLaws.{element_of}
use Rattle.bitvec_words.specs.TouchedLaws.{touched-word, touched-word_across}
use Rattle.bitvec_words.specs.WholeLaws.{list-same}
use Rattle.bitvec_words.specs.WordLaws.{word_whole}
use Rattle.bitvec_words.proofs.word_elements.load_across.Goals as goal

pub load_elements-word-requires : goal.load_elements-word-requires
load_elements-word-requires g c =
    let has = c.requires.window in
    let start = has.within.start in
    let len = has.within.len in
    record { window = record { fits = has.fits; within = record { start = omega arith; len = omega arith } }; narrow = c.requires.narrow }

pub returns-then-skip-eq0-clause-value : goal.returns-then-skip-eq0-clause-value
returns-then-skip-eq0-clause-value g c =
    let b = g.C.Elem.BitStore.BITS in
    c.load_elements-word.ensures.value
    ∙ list-same b g.O.BitOrder.at _ (elements_window_from b c.args.first c.args.skip (64 / b)) (elements_window b c.args.first (64 / b)) (omega arith) refl

pub returns-then-skip-eq0-clause-reads : goal.returns-then-skip-eq0-clause-reads
returns-then-skip-eq0-clause-reads g c =
    let b = g.C.Elem.BitStore.BITS in
    let width = g.met.C.Elem.BitStore.width_law in
    rw (touched-word b (c.args.first * b + c.args.skip) width c.requires.narrow (rw (mod-mul-add c.args.first b c.args.skip c.requires.inside) (omega arith))) c.load_elements-word.ensures.reads

pub load-next-requires : goal.load-next-requires
load-next-requires g c =
    let b = g.C.Elem.BitStore.BITS in
    let xs = g.C.CellsRead.numbers c.args.cells.now in
    let whole = word_whole b g.met.C.Elem.BitStore.width_law c.requires.narrow in
    let same = ap length c.load_elements-word.ensures.reads.numbers in
    let start = c.requires.window.within.start in
    let end = c.requires.window.within.len in
    let some = c.if-skip-eq0.false in
    let sum : (c.args.first + 64 / b) * b ≡ c.args.first * b + 64 = omega arith in
    let inside : c.args.first + 64 / b < length xs = element_of b (c.args.first + 64 / b) 0 (length xs) (omega arith) in
    omega arith

pub returns-clause-value : goal.returns-clause-value
unfolding window_of
returns-clause-value g c =
    let b = g.C.Elem.BitStore.BITS in
    let at = g.O.BitOrder.at in
    let xs = g.C.CellsRead.numbers c.args.cells.now in
    let bits = memory_bits b at xs in
    let first = c.args.first in
    let skip = c.args.skip in
    let start = c.requires.window.within.start in
    let end = c.requires.window.within.len in
    let whole = word_whole b g.met.C.Elem.BitStore.width_law c.requires.narrow in
    let some = c.if-skip-eq0.false in
    let long = length-memory_bits b at xs in
    let sum : (first + 64 / b) * b ≡ first * b + 64 = omega arith in
    let inside : first + 64 / b < length xs = element_of b (first + 64 / b) 0 (length xs) (omega arith) in
    let fits : first * b + 64 + b ≤ b * length xs = omega (arith, element_fits b (first + 64 / b) (length xs) inside) in
    let word = c.load_elements-word.ensures.value ∙ ap (λ (n : ℕ). slice_range bits (first * b) (first * b + n)) whole in
    let held = rw (c.elements_of.ensures, c.load_elements-word.ensures.reads.numbers) at c.load-next.ensures.value in
    let next_bits = ap (element_bits b at) held ∙ sym (rw sum at (element-range b at xs (first + 64 / b) inside)) in
    let behind = rw (c.BITS.ensures, next_bits) at c.moved-behind.ensures in
    (rw (word, behind) at c.joined.ensures)
    ∙ word-across bits (first * b) b skip c.requires.inside c.requires.narrow (omega arith)
    ∙ ap (λ (n : ℕ). slice_range bits (first * b + skip) (first * b + skip + n)) (sym whole)

pub returns-clause-reads : goal.returns-clause-reads
returns-clause-reads g c =
    let b = g.C.Elem.BitStore.BITS in
    let width = g.met.C.Elem.BitStore.width_law in
    let index = mod-mul-add c.args.first b c.args.skip c.requires.inside in
    let all = touched-word_across b (c.args.first * b + c.args.skip) width c.requires.narrow (rw index (omega arith)) in
    let head = c.load_elements-word.ensures.reads in
    let one = c.load-next.ensures in
    rw all (record { numbers = one.numbers ∙ head.numbers; borrow = one.borrow ∙ head.borrow; loads = omega arith; stores = one.stores ∙ head.stores })
