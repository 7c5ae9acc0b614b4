use Rattle.std.proofs.Common.{◌∙◌}
use Rattle.bitvec_base.specs.WindowLaws.{get-one}
use Rattle.bitvec_domain.specs.References.{bit_of_ref_mut, memory_of_ref_mut}
use Rattle.bitvec_domain.proofs.reference_mut.BitRefMut.bit.Goals as goal

pub returns : goal.returns
unfolding bit_of_ref_mut memory_of_ref_mut
returns g c = rw (c.window.ensures) at c.bit_in.ensures ∙ get-one _ _ _
