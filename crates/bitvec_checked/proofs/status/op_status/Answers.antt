use Rattle.std.proofs.Common.{[], refl, sym, ◌∙◌}
use Rattle.bitvec_commands.specs.CommandsLaws.{fits_list}
use Rattle.bitvec_checked.proofs.status.op_status.Goals as goal

pub returns-in-None-clause-fits : goal.returns-in-None-clause-fits
returns-in-None-clause-fits c = λ done. fits_list [] c.args.len c.args.op (sym (c.command_refusal.ensures [] refl) ∙ c.in-None.is)
