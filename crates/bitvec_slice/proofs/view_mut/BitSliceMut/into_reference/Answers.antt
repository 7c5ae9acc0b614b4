use Rattle.std.proofs.Common.{refl, ◌∙◌}
use Rattle.bitvec_slice.proofs.view_mut.BitSliceMut.into_reference.Goals as goal

pub new-requires : goal.new-requires
new-requires g c =
    let has = rw (c.window-place.ensures.value, c.requires) at c.window-place.ensures.inside in
    record { window = rw (c.into_elements.ensures.elements, c.window-place.ensures.value) has }

pub returns-clause-place : goal.returns-clause-place
returns-clause-place g c = rw (c.new.ensures.place, c.window-place.ensures.value) refl

pub returns-clause-elements : goal.returns-clause-elements
returns-clause-elements g c = c.new.ensures.elements ∙ c.into_elements.ensures.elements
