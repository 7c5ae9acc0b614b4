use Rattle.std.proofs.Common.{refl}
use Rattle.bitvec_slice.specs.PartLaws.{part-few, part-holds, part-shown}
use Rattle.bitvec_slice.proofs.view.BitSlice.into_part.Goals as goal

pub from_parts-requires-clause-inside : goal.from_parts-requires-clause-inside
from_parts-requires-clause-inside g c = part-holds _ c.touched_part-part.ensures.part refl

pub from_parts-requires-clause-fits : goal.from_parts-requires-clause-fits
from_parts-requires-clause-fits g c = part-few _ c.touched_part-part.ensures.part refl c.args.self.bounded

pub returns : goal.returns
returns g c = part-shown _ c.touched_part-part.ensures.part refl _ _ c.from_parts.ensures
