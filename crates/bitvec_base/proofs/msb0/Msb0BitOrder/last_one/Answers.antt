use Rattle.std.proofs.Common.{◌∙◌}
use Rattle.bitvec_base.specs.FoundLaws.{last-mirrored, last-mirrored_none, first-below_width}
use Rattle.bitvec_base.proofs.msb0.Msb0BitOrder.last_one.Goals as goal

pub returns-in_err-place : goal.returns-in_err-place
returns-in_err-place g c = c.from_residual.ensures ∙ last-mirrored_none g.R.BitStore.BITS _ c.in_err-place.ensures

pub at-requires : goal.at-requires
at-requires g c = first-below_width g.R.BitStore.BITS _ _ c.in_ok-place.ensures

pub returns : goal.returns
returns g c = rw c.at.ensures (last-mirrored g.R.BitStore.BITS _ _ c.in_ok-place.ensures)
