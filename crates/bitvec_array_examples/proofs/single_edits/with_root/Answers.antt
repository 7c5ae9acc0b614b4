use Rattle.std.proofs.Common.{◌∙◌, Bool, List, ap, slice_set, true}
use Rattle.bitvec.specs.BytesLaws.{lsb0-zeros}
use Rattle.bitvec_array_examples.proofs.single_edits.with_root.Goals as goal

pub returns : goal.returns
returns c = c.set.ensures.bits ∙ ap (λ (bits : List Bool). slice_set bits 1 true) (lsb0-zeros 64 32)
