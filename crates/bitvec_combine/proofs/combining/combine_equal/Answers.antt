use Rattle.std.proofs.Common.{arith, rules, ◌+◌}
use Rattle.std.proofs.lemmas.Nat.{mod_below}
use Rattle.bitvec_store.specs.WidthLaws.{width_some}
use Rattle.bitvec_combine.specs.CombineLaws.{combines-beside}
use Rattle.bitvec_combine.proofs.combining.combine_equal.Goals as goal

pub act_phased-requires-clause-met : goal.act_phased-requires-clause-met
act_phased-requires-clause-met g c =
    let below = mod_below (c.args.to.start + c.args.from.len) g.C.Elem.BitStore.BITS (width_some _ g.met.C.Elem.BitStore.width_law) in
    record { window = search rules; beside = search rules; some = omega arith; lengths = omega arith; inside = λ less. absurd (omega arith); reach = omega arith }

pub returns-clause-writes : goal.returns-clause-writes
returns-clause-writes g c = combines-beside _ _ _ c.act_phased.ensures.done.writes
