use Rattle.std.proofs.Common.{◌∙◌}
use Rattle.bitvec.specs.UndoLaws.{inverted-back}
use Rattle.bitvec_view_examples.proofs.edit_laws.inverted_twice.Goals as goal

pub returns : goal.returns
returns g c = c.into_slice.ensures.memory ∙ inverted-back _ _ _ c.invert.ensures c.not-view.ensures ∙ c.from_slice_mut-view.ensures.whole.memory
