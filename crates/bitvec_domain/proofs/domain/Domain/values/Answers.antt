use Rattle.bitvec_domain.proofs.ValuesLaws.{values_yielded}
use Rattle.bitvec_domain.proofs.domain.Domain.values.Goals as goal

pub returns-in-Enclave-clause-runs : goal.returns-in-Enclave-clause-runs
returns-in-Enclave-clause-runs g c = values_yielded _

pub returns-in-Region-clause-runs : goal.returns-in-Region-clause-runs
returns-in-Region-clause-runs g c = values_yielded _
