use Rattle.std.proofs.Common.{◌≡◌, ◌-◌, ◌≤◌, length, map, min}
use Rattle.bitvec_base.specs.Memory.{list_in}
use Rattle.bitvec_places.specs.Places.{places_in}
use Rattle.bitvec_places.proofs.WrittenLemmas.{Written}
use Rattle.bitvec_places.proofs.writing.write_places.Given as goal

abbrev pub invariant-loop-edge : goal.invariant-loop-edge
invariant-loop-edge g l =
    record {
      low : l.from ≤ l.edge;
      high : l.edge ≤ l.window.len;
      written : Written (places_in l.want (list_in g.T.BitStore.BITS g.O.BitOrder.at (map g.T.BitStore.value l.elements) l.window) l.from l.edge) l.fn.indices l.indices l.count;
      most : l.count ≡ min (length (places_in l.want (list_in g.T.BitStore.BITS g.O.BitOrder.at (map g.T.BitStore.value l.elements) l.window) l.from l.edge)) (length l.fn.indices);
    }

abbrev pub decreases-loop-edge : goal.decreases-loop-edge
decreases-loop-edge g l = l.window.len - l.edge
