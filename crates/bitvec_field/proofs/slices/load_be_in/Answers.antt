use Rattle.std.proofs.Common.{map}
use Rattle.bitvec_base.specs.Memory.{list_in}
use Rattle.bitvec_base.specs.WritesLaws.{length-list}
use Rattle.bitvec_segments.specs.LoadLaws.{loaded_be-below}
use Rattle.bitvec_field.proofs.slices.load_be_in.Goals as goal

pub from_bits-requires-clause-fits : goal.from_bits-requires-clause-fits
from_bits-requires-clause-fits g c =
    let list = list_in g.T.BitStore.BITS g.O.BitOrder.at (map g.T.BitStore.value c.args.elements.now) c.args.window in
    let below = rw (length-list _ c.requires.window) at (loaded_be-below g.O.WordOrder.HIGH g.T.BitStore.BITS c.args.window.start list) in
    rw (c.load_be-number.ensures.value, c.new-accessor.ensures.numbers) below
