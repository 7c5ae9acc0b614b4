use Rattle.std.proofs.Common.{◌∙◌}
use Rattle.bitvec_base.specs.FoundLaws.{first-mirrored, first-mirrored_none, last-below_width}
use Rattle.bitvec_base.proofs.msb0.Msb0BitOrder.first_one.Goals as goal

pub returns-in_err-place : goal.returns-in_err-place
returns-in_err-place g c = c.from_residual.ensures ∙ first-mirrored_none g.R.BitStore.BITS _ c.in_err-place.ensures

pub at-requires : goal.at-requires
at-requires g c = last-below_width g.R.BitStore.BITS _ _ c.in_ok-place.ensures

pub returns : goal.returns
returns g c = rw c.at.ensures (first-mirrored g.R.BitStore.BITS _ _ c.in_ok-place.ensures)
