use Rattle.std.proofs.Common.{rules}
use Rattle.bitvec_checked_run.proofs.running.run_in.Goals as goal

pub returns : goal.returns
returns g c = record { replies = search rules; writes = search rules }
