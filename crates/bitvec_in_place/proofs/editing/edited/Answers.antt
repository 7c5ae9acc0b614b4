use Rattle.std.proofs.Common.{ℕ, Bool, List, ◌∙◌, ap, map, sym}
use Rattle.bitvec_base.specs.Memory.{list_in, memory_bits}
use Rattle.bitvec_base.specs.Window.{write_at}
use Rattle.bitvec_base.specs.declared.window.Window.{Window}
use Rattle.bitvec_slice.specs.Seen.{Seen}
use Rattle.bitvec_in_place.proofs.Windows.{edited-is}
use Rattle.bitvec_in_place.proofs.editing.edited.Goals as goal

pub returns-clause-bits : goal.returns-clause-bits
returns-clause-bits g c =
    let b = g.T.BitStore.BITS in
    let at = g.O.BitOrder.at in
    let value = g.T.BitStore.value in
    let made = g.E.Edit.made c.args.edit.now in
    let xs : List ℕ = map value c.args.elements.now in
    let was : List Bool = memory_bits b at xs in
    let part = c.span_in-part in
    c.into_slice.ensures.memory
    ∙ ap (λ (l : List _). memory_bits b at (map value l)) c.stand_at.ensures.elements
    ∙ c.edit.ensures.memory
    ∙ ap (λ (s : Seen _). write_at s.memory s.window.start (made s.bits)) c.from_parts-view.ensures.view
    ∙ ap (λ (w : Window). write_at was w.start (made (list_in b at xs part.result))) part.ensures.is
    ∙ ap (λ (l : List Bool). write_at was c.args.range.start (made l)) part.ensures.bits
    ∙ sym (edited-is made was c.args.range.start c.args.range.end)
