use Rattle.std.proofs.Common.{subst, sym, ℕ, ◌<◌}
use Rattle.bitvec_base.specs.HiLoLaws.{flip_below}
use Rattle.bitvec_base.proofs.hi_lo.HiLoBitOrder.select.Goals as goal

pub single-requires : goal.single-requires
single-requires g c =
    subst (λ (n : ℕ). n < g.R.BitStore.BITS) (sym c.at.ensures) (flip_below _ g.met.R.BitStore.width_law _ c.requires)
