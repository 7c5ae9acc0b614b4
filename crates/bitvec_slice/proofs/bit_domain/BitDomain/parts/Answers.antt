use Rattle.bitvec_slice.proofs.BitPartsLaws.{parts_yielded}
use Rattle.bitvec_slice.proofs.bit_domain.BitDomain.parts.Goals as goal

pub returns-in-Enclave-clause-runs : goal.returns-in-Enclave-clause-runs
returns-in-Enclave-clause-runs g c = parts_yielded _

pub returns-in-Region-clause-runs : goal.returns-in-Region-clause-runs
returns-in-Region-clause-runs g c = parts_yielded _
