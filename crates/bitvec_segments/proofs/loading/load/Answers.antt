use Rattle.std.specs.Prelude.{◌==◌, not}
use Rattle.std.proofs.Common.{◌≡◌, ap, arith, refl, rules, sym, ◌∙◌}
use Rattle.bitvec_base.specs.SliceLaws.{range-from_start}
use Rattle.bitvec_cells.specs.WalkLaws.{touched-none}
use Rattle.bitvec_words.specs.TouchedLaws.{touched-word}
use Rattle.bitvec_segments.specs.PlainLaws.{loaded-plain}
use Rattle.bitvec_segments.specs.Segments.{segment_number}
use Rattle.bitvec_segments.proofs.JoinedWindow.{number-word}
use Rattle.bitvec_segments.proofs.WalkLemmas.{loaded-nothing}
use Rattle.bitvec_segments.proofs.loading.load.Goals as goal

pub returns-then-window-eq0-clause-value : goal.returns-then-window-eq0-clause-value
returns-then-window-eq0-clause-value g c = loaded-nothing _ _ _ c.requires.window (omega arith)

pub returns-then-window-eq0-clause-reads : goal.returns-then-window-eq0-clause-reads
returns-then-window-eq0-clause-reads g c =
    let none : c.args.window.len ≡ 0 = omega arith in
    rw (none, touched-none g.C.Elem.BitStore.BITS c.args.window.start) (record { numbers = refl; borrow = refl; loads = omega arith; stores = refl })

pub returns-then-window-eq-WORD_BITS-clause-value : goal.returns-then-window-eq-WORD_BITS-clause-value
returns-then-window-eq-WORD_BITS-clause-value g c =
    let plain : not (g.row.BIG == 0) ≡ g.O.WordOrder.HIGH = search rules in
    let word = rw c.element.ensures at c.load_elements.ensures.value in
    number-word _ _ _ c.args.window (g.met.O.WordOrder.ends_law 64) g.met.C.Elem.BitStore.width_law (omega arith) (omega arith) c.if-window-eq-WORD_BITS.true (omega arith) word
    ∙ sym (loaded-plain (not (g.row.BIG == 0)) g.O.WordOrder.HIGH _ _ _ plain)

pub returns-then-window-eq-WORD_BITS-clause-reads : goal.returns-then-window-eq-WORD_BITS-clause-reads
returns-then-window-eq-WORD_BITS-clause-reads g c =
    rw (c.if-window-eq-WORD_BITS.true, touched-word g.C.Elem.BitStore.BITS c.args.window.start g.met.C.Elem.BitStore.width_law (omega arith) (omega arith)) c.load_elements.ensures.reads

pub returns-then-from-window-le-WORD_BITS-clause-value : goal.returns-then-from-window-le-WORD_BITS-clause-value
returns-then-from-window-le-WORD_BITS-clause-value g c =
    let plain : not (g.row.BIG == 0) ≡ g.O.WordOrder.HIGH = search rules in
    c.joined_number.ensures.value ∙ sym (loaded-plain (not (g.row.BIG == 0)) g.O.WordOrder.HIGH _ _ _ plain)

pub returns-then-window-BITS-clause-value : goal.returns-then-window-BITS-clause-value
returns-then-window-BITS-clause-value g c =
    let plain : not (g.row.BIG == 0) ≡ g.O.WordOrder.HIGH = search rules in
    c.number_between.ensures
    ∙ ap (segment_number g.O.WordOrder.HIGH) (range-from_start _ _ _ refl ∙ c.load_element-front.ensures.value)
    ∙ sym (loaded-plain (not (g.row.BIG == 0)) g.O.WordOrder.HIGH _ _ _ plain)
