use Rattle.bitvec_base.specs.WritesLaws.{Writes-one}
use Rattle.bitvec_domain.proofs.reference_mut.BitRefMut.commit.Goals as goal

pub returns : goal.returns
returns g c = record { writes = Writes-one _ _ c.args.self.window c.set_in.ensures.writes }
