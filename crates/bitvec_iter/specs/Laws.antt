-- Sets of laws for callers of walks, for `using`.
use Rattle.std.proofs.iter.Rest.{run_of_first, run_of_first_by, run_of_last, run_of_last_by}
use Rattle.std.proofs.lemmas.Grind.{common_steps}

-- These laws tell what std's adapters make of a walk: the items of a run are those that were to come, in order.
pub ruleset walked = (run_of_first, run_of_first_by, run_of_last, run_of_last_by, common_steps)
