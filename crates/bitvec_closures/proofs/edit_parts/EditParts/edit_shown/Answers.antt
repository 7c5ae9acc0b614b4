use Rattle.bitvec_closures.specs.InPlaceLaws.{may-return, returned}
use Rattle.bitvec_closures.proofs.edit_parts.EditParts.edit_shown.Goals as goal

pub stand_at-requires : goal.stand_at-requires
stand_at-requires g c =
    let sound = g.met.Self.View.shows_elements in
    let narrowed = c.narrow-window.ensures in
    may-return sound c.requires.range narrowed (c.requires.edit.in_place _ _ _ narrowed.part c.edit-result.ensures)

pub returns : goal.returns
returns g c =
    let sound = g.met.Self.View.shows_elements in
    let narrowed = c.narrow-window.ensures in
    let stays = c.requires.edit.in_place _ _ _ narrowed.part c.edit-result.ensures in
    record { piece = _; left = _; is = narrowed.part; edited = c.edit-result.ensures; written = returned sound c.requires.range narrowed stays c.stand_at.ensures }
