use Rattle.std.proofs.Common.{false}
use Rattle.std.specs.Prelude.{replicate}
use Rattle.std.proofs.lemmas.List.{length-replicate}
use Rattle.bitvec_run.specs.RunsLaws.{refusal-fits}
use Rattle.bitvec_run.proofs.step.step_refusal.Goals as goal

pub returns-clause-fits : goal.returns-clause-fits
returns-clause-fits c =
    let long = length-replicate c.args.source_len false in
    rw long at (refusal-fits (replicate c.args.source_len false) c.args.len c.args.step _ c.if-step.false c.if-step-len.false (c.command_refusal.ensures _ long))
