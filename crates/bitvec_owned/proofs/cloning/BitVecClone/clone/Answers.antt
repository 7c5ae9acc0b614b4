use Rattle.std.proofs.Common.{◌∙◌}
use Rattle.bitvec_owned.proofs.cloning.BitVecClone.clone.Goals as goal

pub from_parts-requires-clause-touched : goal.from_parts-requires-clause-touched
from_parts-requires-clause-touched g c = c.in_ok-elements.ensures.len ∙ c.as_slice.ensures.len ∙ c.args.self.now.touched

pub from_parts-requires-clause-fits : goal.from_parts-requires-clause-fits
from_parts-requires-clause-fits g c = rw (c.in_ok-elements.ensures.len, c.as_slice.ensures.len) c.args.self.now.bounded

pub returns : goal.returns
returns g c = record { cases = (rw (c.in_ok-elements.ensures.items, c.as_slice.ensures.value) at c.from_parts.ensures.shows, c.from_parts.ensures.room) }
