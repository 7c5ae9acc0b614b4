use Rattle.bitvec_closures.specs.InPlaceLaws.{behind-is, halves-written}
use Rattle.bitvec_closures.proofs.edit_parts.EditParts.edit_halves.Goals as goal

pub edit_shown-behind-requires-clause-edit : goal.edit_shown-behind-requires-clause-edit
edit_shown-behind-requires-clause-edit g c =
    let sound = g.met.Self.View.shows_elements in
    let first = c.edit_shown-before.ensures in
    let stays = c.requires.left.in_place _ _ _ first.is first.edited in
    rw c.window-len.ensures.value (record {
      accepts = λ p is. c.requires.right.accepts p (behind-is sound c.requires.bound first.is stays first.written is);
      in_place = λ p q r is. c.requires.right.in_place p q r (behind-is sound c.requires.bound first.is stays first.written is);
    })

pub returns : goal.returns
returns g c =
    let sound = g.met.Self.View.shows_elements in
    let first = c.edit_shown-before.ensures in
    let second = rw c.window-len.ensures.value at c.edit_shown-behind.ensures in
    let stays = c.requires.left.in_place _ _ _ first.is first.edited in
    let behind = behind-is sound c.requires.bound first.is stays first.written second.is in
    record {
      first = first.piece;
      first_left = first.left;
      second = second.piece;
      second_left = second.left;
      first_is = first.is;
      first_edited = first.edited;
      second_is = behind;
      second_edited = second.edited;
      written = g.met.Self.EditParts.written_so _ _ _ (halves-written sound c.requires.bound first.is stays first.written behind (c.requires.right.in_place _ _ _ behind second.edited) second.written);
    }
