use Rattle.std.proofs.Common.{◌≡◌, map, take}
use Rattle.std.specs.Prelude.{count_by, Bool}
use Rattle.bitvec_base.specs.Memory.{list_in}
use Rattle.bitvec_checked.specs.Every.{every}
use Rattle.bitvec_checked.proofs.every.count_each.Given as goal

abbrev pub invariant-loop-place : goal.invariant-loop-place
invariant-loop-place g l =
    l.ones ≡ count_by (λ (bit : Bool). bit) (take l.place (every l.step (list_in g.T.BitStore.BITS g.O.BitOrder.at (map g.T.BitStore.value l.elements) l.window)))
