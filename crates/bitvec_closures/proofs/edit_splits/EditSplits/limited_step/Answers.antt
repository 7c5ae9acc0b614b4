use Rattle.std.proofs.lemmas.Option.{IfSome_then}
use Rattle.bitvec_closures.proofs.edit_splits.EditSplits.limited_step.Goals as goal

pub returns-then-not-LIMITED-clause-callable : goal.returns-then-not-LIMITED-clause-callable
returns-then-not-LIMITED-clause-callable g c = IfSome_then c.step.result c.step.ensures.takes (λ _ _. c.step.ensures.callable)
