use Rattle.std.proofs.Common.{◌-◌, arith, sym, map}
use Rattle.std.proofs.lemmas.List.{length-map}
use Rattle.bitvec_base.specs.Memory.{list_in}
use Rattle.bitvec_base.specs.WritesLaws.{Writes-start, length-list}
use Rattle.bitvec_within.proofs.Rotated.{Writes-aside, back-held, rotated-all}
use Rattle.bitvec_within.proofs.Aside.{held-inside}
use Rattle.bitvec_within.proofs.rotating.rotate_back.Goals as goal

pub returns-then-rest-eq0 : goal.returns-then-rest-eq0
returns-then-rest-eq0 g c =
    let long = length-list g.O.BitOrder.at c.requires.window in
    let fits = c.requires.bound in
    let none = c.if-rest-eq0.true in
    record { writes = Writes-start c.requires.window (rotated-all _ c.args.by (omega arith)) }

pub returns : goal.returns
returns g c =
    let list = list_in g.T.BitStore.BITS g.O.BitOrder.at (map g.T.BitStore.value c.args.elements.now) c.args.window in
    let long = length-list g.O.BitOrder.at c.requires.window in
    let len = c.args.window.len in
    let by = c.args.by in
    let fits = c.requires.bound in
    record {
      writes = Writes-aside by len 0 (len - by) c.requires.window (held-inside g.met.T.BitStore.width_law (length-map c.args.held.now g.T.BitStore.value) (omega arith) (omega arith)) fits (omega arith) (omega arith) (omega arith)
          (rw c.range.ensures at c.copy_from_long_block_in.ensures.writes) c.copy_within_in.ensures.writes (rw c.range-2.ensures at c.copy_from_long_block_in-2.ensures.writes)
          (back-held list by len (sym long) fits);
    }
