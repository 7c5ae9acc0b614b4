use Rattle.std.proofs.Common.{◌∙◌, ap, length}
use Rattle.bitvec_closures.proofs.ElementsLaws.{length-whole, whole-left}
use Rattle.bitvec_closures.proofs.edit_elements.EditElements.edit_elements.Goals as goal

pub from_view-requires : goal.from_view-requires
from_view-requires g c =
    let is = c.into_view-view.ensures.view in
    let whole = whole-left g.met.Self.View.View.shows_elements is (c.requires.edit.in_place _ _ _ is c.edit-result.ensures) in
    record { start = whole.start; len = whole.len }

pub returns-clause-edited : goal.returns-clause-edited
returns-clause-edited g c =
    let sound = g.met.Self.View.View.shows_elements in
    let is = c.into_view-view.ensures.view in
    let stays = c.requires.edit.in_place _ _ _ is c.edit-result.ensures in
    record {
      piece = _;
      left = _;
      is = is;
      edited = c.edit-result.ensures;
      left_is = rw c.from_view.ensures.elements (whole-left sound is stays);
      length = ap length c.from_view.ensures.elements ∙ length-whole sound is stays;
    }
