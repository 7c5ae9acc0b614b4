use Rattle.std.proofs.Common.{arith, sym, ◌∙◌}
use Rattle.bitvec_base.specs.NeedleLaws.{is_prefix-no_longer}
use Rattle.bitvec_slice.specs.Views.{seen}
use Rattle.bitvec_slice.proofs.view.BitSlice.strip_prefix.Goals as goal

pub into_part-requires : goal.into_part-requires
into_part-requires g c =
    let fits = is_prefix-no_longer (seen c.args.needle).bits (seen c.args.self).bits (sym c.begins_with.ensures ∙ c.if-begins_with.true) in
    omega (arith, c.len.ensures.value, c.len-then-begins_with.ensures.value)
