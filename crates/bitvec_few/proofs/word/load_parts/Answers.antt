use Rattle.std.proofs.Common.{◌≡◌, ◌/◌, ◌%◌, arith, ◌∙◌, sym}
use Rattle.std.proofs.lemmas.Nat.{div-add-mod', mod_below}
use Rattle.bitvec_base.specs.WritesLaws.{length-list}
use Rattle.bitvec_store.specs.WidthLaws.{width_some}
use Rattle.bitvec_words.specs.Elements.{elements_window_from}
use Rattle.bitvec_words.specs.WholeLaws.{list-same}
use Rattle.bitvec_words.specs.WordLaws.{padded-all, word_whole}
use Rattle.bitvec_few.proofs.FewLemmas.{padded-word}
use Rattle.bitvec_few.proofs.word.load_parts.Goals as goal

pub returns-then-window-BITS-clause-value : goal.returns-then-window-BITS-clause-value
returns-then-window-BITS-clause-value g c =
    padded-word g.C.Elem.BitStore.BITS g.O.BitOrder.at c.args.window.len _ _ _ (rw c.BITS.ensures at c.if-window-BITS.true) c.requires.bound c.moved.ensures c.load_short-element.ensures.value

pub returns-clause-value : goal.returns-clause-value
returns-clause-value g c =
    let b = g.C.Elem.BitStore.BITS in
    let at = g.O.BitOrder.at in
    let size : c.args.window.len ≡ 64 = omega arith in
    let whole = word_whole b g.met.C.Elem.BitStore.width_law (omega arith) in
    let place = div-add-mod' c.args.window.start b in
    (rw (c.element.ensures, c.phase.ensures) at c.load_across.ensures.value)
    ∙ list-same b at _ c.args.window (elements_window_from b (c.args.window.start / b) (c.args.window.start % b) (64 / b)) (omega arith) (omega arith)
    ∙ sym (padded-all (length-list at c.requires.window ∙ size))

pub load_across-requires : goal.load_across-requires
load_across-requires g c =
    let b = g.C.Elem.BitStore.BITS in
    let has = c.requires.window in
    let start = has.within.start in
    let len = has.within.len in
    let whole = word_whole b g.met.C.Elem.BitStore.width_law (omega arith) in
    let place = div-add-mod' c.args.window.start b in
    rw (c.element.ensures, c.phase.ensures) (record {
      window = record { fits = has.fits; within = record { start = omega arith; len = omega arith } };
      inside = mod_below c.args.window.start b (width_some b g.met.C.Elem.BitStore.width_law);
      narrow = omega arith;
    })

pub returns-clause-reads : goal.returns-clause-reads
returns-clause-reads g c =
    let b = g.C.Elem.BitStore.BITS in
    let size : c.args.window.len ≡ 64 = omega arith in
    let place = div-add-mod' c.args.window.start b in
    rw (size, ← place) (rw (c.element.ensures, c.phase.ensures) at c.load_across.ensures.reads)
