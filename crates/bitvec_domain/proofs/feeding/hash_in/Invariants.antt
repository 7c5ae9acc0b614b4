use Rattle.std.proofs.Common.{◌≡◌, fold, map, take}
use Rattle.bitvec_base.specs.Memory.{list_in}
use Rattle.bitvec_domain.specs.Feeding.{bits_fed}
use Rattle.bitvec_domain.proofs.feeding.hash_in.Given as goal

abbrev pub invariant-loop-index : goal.invariant-loop-index
invariant-loop-index g l =
    l.state ≡ fold g.H.Hasher.write l.initial.state (bits_fed (take l.index (list_in g.T.BitStore.BITS g.O.BitOrder.at (map g.T.BitStore.value l.elements) l.window)))
