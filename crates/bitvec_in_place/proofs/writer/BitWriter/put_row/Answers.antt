use Rattle.std.proofs.Common.{◌≤◌, ◌+◌, ℕ, arith, refl}
use Rattle.std.proofs.lemmas.List.Sums.{sum_by-take-drop}
use Rattle.bitvec_in_place.specs.ChangesLaws.{changes-then}
use Rattle.bitvec_in_place.specs.MovedLaws.{length-bits_of}
use Rattle.bitvec_in_place.proofs.RowLemmas.{row-more, row_len-more, width-fits}
use Rattle.bitvec_in_place.specs.Rows.{row_len}
use Rattle.bitvec_in_place.proofs.writer.BitWriter.put_row.Goals as goal

pub loop-field-preserved : goal.loop-field-preserved
loop-field-preserved g c =
    let was = c.loop-field.invariant in
    let put = c.put_next.ensures in
    let more = c.loop-field-test.true in
    let inside = c.loop-field.self.inside in
    let whole = length-bits_of g.T.BitStore.BITS g.O.BitOrder.at g.T.BitStore.value c.loop-field.self.elements.now in
    let total = row_len-more c.args.row.now c.loop-field.field-index (0, 0) more in
    record {
      row = row-more g.O.WordOrder.HIGH g.T.BitStore.BITS _ _ _ _ _ c.loop-field.field-index c.args.row.now (0, 0) was.row put.outside put.number was.position (omega arith) more;
      outside = changes-then _ _ _ _ _ _ _ _ _ was.outside put.outside (omega arith) (omega arith) (omega arith) (omega arith);
      position = omega arith;
      len = cc;
      name = cc;
      limit = cc;
    }

pub put_next-requires-clause-bound : goal.put_next-requires-clause-bound
put_next-requires-clause-bound g c = width-fits c.args.row.now c.loop-field.field-index (0, 0) c.requires c.loop-field-test.true

pub put_next-requires-clause-room : goal.put_next-requires-clause-room
put_next-requires-clause-room g c =
    let was = c.loop-field.invariant in
    let row = c.args.row.now in
    let i = c.loop-field.field-index in
    let total = row_len-more row i (0, 0) c.loop-field-test.true in
    let rest = sum_by-take-drop (λ (field : ℕ × ℕ). field.0) row (i + 1) in
    let fits : row_len row ≤ c.remaining.result = (rw c.if-not-has_room.false at c.has_room.ensures).0 refl in
    let long = was.outside.length in
    let whole = length-bits_of g.T.BitStore.BITS g.O.BitOrder.at g.T.BitStore.value c.args.self.now.elements.now in
    omega arith
