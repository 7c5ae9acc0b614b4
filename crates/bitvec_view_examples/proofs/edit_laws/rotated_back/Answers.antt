use Rattle.std.specs.Prelude.{◌≤◌}
use Rattle.std.proofs.Common.{sym, subst, ◌∙◌}
use Rattle.bitvec.specs.UndoLaws.{rotated-back}
use Rattle.bitvec.specs.ShowingLaws.{length-seen_mut}
use Rattle.bitvec_view_examples.proofs.edit_laws.rotated_back.Goals as goal

pub returns : goal.returns
returns g c =
    let view = c.from_slice_mut-view.result in
    let inside = subst (λ n. c.args.by ≤ n) (sym (length-seen_mut view ∙ c.from_slice_mut-view.ensures.whole.len)) c.requires.bound in
    c.into_slice.ensures.memory ∙ rotated-back view _ _ c.args.by inside c.rotate_left.ensures c.rotate_right.ensures ∙ c.from_slice_mut-view.ensures.whole.memory
