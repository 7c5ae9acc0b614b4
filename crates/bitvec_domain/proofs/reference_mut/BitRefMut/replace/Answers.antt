use Rattle.std.specs.Prelude.{refl}
use Rattle.std.proofs.Common.{◌∙◌}
use Rattle.bitvec_base.specs.WindowLaws.{get-one}
use Rattle.bitvec_domain.specs.References.{bit_of_ref_mut, memory_of_ref_mut}
use Rattle.bitvec_domain.proofs.References.{writes_bit}
use Rattle.bitvec_domain.proofs.reference_mut.BitRefMut.replace.Goals as goal

pub returns-clause-value : goal.returns-clause-value
unfolding bit_of_ref_mut memory_of_ref_mut
returns-clause-value g c = rw (c.window-window.ensures) at c.replace_in.ensures.value ∙ get-one _ _ _

pub returns-clause-writes : goal.returns-clause-writes
returns-clause-writes g c = writes_bit c.args.self.now _ c.args.bit refl refl (rw (c.window-window.ensures) at c.replace_in.ensures.writes)
