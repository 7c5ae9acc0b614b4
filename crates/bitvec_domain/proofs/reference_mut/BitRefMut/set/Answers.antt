use Rattle.std.specs.Prelude.{refl}
use Rattle.bitvec_domain.proofs.References.{writes_bit}
use Rattle.bitvec_domain.proofs.reference_mut.BitRefMut.set.Goals as goal

pub returns : goal.returns
returns g c = record { writes = writes_bit c.args.self.now _ c.args.bit refl refl (rw (c.window-window.ensures) at c.set_in.ensures.writes) }
