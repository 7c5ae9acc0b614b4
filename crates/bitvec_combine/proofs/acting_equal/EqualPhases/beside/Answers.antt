use Rattle.std.proofs.Common.{◌+◌, ◌/◌, arith, refl, rules, sym, ◌∙◌}
use Rattle.std.proofs.lemmas.Nat.{div-add-mod'}
use Rattle.bitvec_base.specs.declared.part.Part.{Part}
use Rattle.bitvec_base.specs.Parts.{part_window}
use Rattle.bitvec_store.specs.WidthLaws.{width_some}
use Rattle.bitvec_words.specs.FieldLaws.{list-part}
use Rattle.bitvec_words.specs.TouchedLaws.{touched-one}
use Rattle.bitvec_words.specs.WholeLaws.{list-same}
use Rattle.bitvec_words.specs.MovedPlaceLaws.{head-element}
use Rattle.bitvec_combine.proofs.StretchActs.{index-same}
use Rattle.bitvec_combine.proofs.acting_equal.EqualPhases.beside.Goals as goal

pub returns-clause-value : goal.returns-clause-value
returns-clause-value g c =
    let b = g.D.Elem.BitStore.BITS in
    let window = c.args.window in
    let same = index-same _ _ c.requires.phases in
    let place = div-add-mod' window.start b in
    let bound = c.requires.bound in
    let part : Part = record { element = window.start / b; from = c.args._index; to = c.args._index + window.len } in
    let inside = head-element {w = b} g.met.D.Elem.BitStore.width_law refl c.requires.some c.requires.inside in
    rw (c.load.ensures.value, c.element.ensures) (sym (list-same b g.O.BitOrder.at _ (part_window b part) window (omega arith) (omega arith) ∙ list-part {b = b} g.O.BitOrder.at {part = part} (record { element = inside; order = omega arith; bound = bound })))

pub returns-clause-reads : goal.returns-clause-reads
returns-clause-reads g c =
    let b = g.D.Elem.BitStore.BITS in
    let same = index-same _ _ c.requires.phases in
    rw (touched-one b c.args.window.start c.args.window.len (width_some b g.met.D.Elem.BitStore.width_law) c.requires.some (omega arith)) (search rules)
