use Rattle.std.proofs.Common.{◌≡◌, ℕ, List, length, refl, sym, ap, ◌∙◌}
use Rattle.bitrecord.specs.Views.{fields_of}
use Rattle.packet.proofs.ChangeLaws.{set-fields}
use Rattle.packet.proofs.changes.changed.Goals as goal

pub returns-clause-set : goal.returns-clause-set
returns-clause-set g c =
    let whole = c.from_slice_mut-view.ensures.whole in
    let size : length c.into_slice.result.now ≡ length c.args.bytes.now =
    ap (λ (l : List ℕ). length l) c.into_slice.ensures.elements ∙ c.make_right.ensures.written.length ∙ c.write_changes.ensures.written.length ∙ ap (λ (l : List ℕ). length l) whole.elements in
    set-fields (fields_of c.args.layout.now) (fields_of c.args.words.now) c.args.changes.now c.args.bytes.now c.into_slice.result.now
    c.from_slice_mut-view.result c.write_changes.new.view c.make_right.new.view refl whole.start whole.bits c.write_changes.ensures c.make_right.ensures (sym c.into_slice.ensures.bits) size
