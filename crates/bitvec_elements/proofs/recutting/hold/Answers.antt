use Rattle.std.proofs.Common.{refl}
use Rattle.std.proofs.lemmas.List.{length-map}
use Rattle.bitvec_base.specs.WritesLaws.{Writes-holds}
use Rattle.bitvec_elements.proofs.RecutLemmas.{block-window}
use Rattle.bitvec_elements.proofs.recutting.hold.Goals as goal

pub returns-clause-bits : goal.returns-clause-bits
returns-clause-bits g c =
    Writes-holds (block-window g.met.T.BitStore.width_law (length-map c.args.block.now g.T.BitStore.value) c.requires.few refl c.requires.room) c.recut.ensures.writes
