use Rattle.std.proofs.Common.{map}
use Rattle.bitvec_c.proofs.OnesLemmas.{places-from}
use Rattle.bitvec_c.proofs.ones.ones_in.Goals as goal

pub returns : goal.returns
returns g c =
    let same = places-from g.T.BitStore.BITS g.O.BitOrder.at (map g.T.BitStore.value c.args.elements.now) c.args.window c.args.from c.requires.window c.requires.bound in
    record { found = rw same at c.write_places.ensures.count; indices = rw same at c.write_places.ensures.indices }
