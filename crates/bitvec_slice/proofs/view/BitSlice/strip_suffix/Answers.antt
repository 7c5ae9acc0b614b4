use Rattle.std.proofs.Common.{arith, sym, ◌∙◌}
use Rattle.bitvec_base.specs.NeedleLaws.{is_suffix-no_longer}
use Rattle.bitvec_slice.specs.Views.{seen}
use Rattle.bitvec_slice.proofs.view.BitSlice.strip_suffix.Goals as goal

pub overflow_sub-len : goal.overflow_sub-len
overflow_sub-len g c =
    let fits = is_suffix-no_longer (seen c.args.needle).bits (seen c.args.self).bits (sym c.finishes_with.ensures ∙ c.if-finishes_with.true) in
    omega (arith, c.len.ensures.value, c.len-then-finishes_with.ensures.value)
