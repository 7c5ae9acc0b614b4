use Rattle.std.proofs.Common.{◌≡◌, ℕ, ◌+◌, ◌<◌, ◌≤◌, length, arith, refl, ap, ◌∙◌}
use Rattle.std.specs.Prelude.{slice_index_or}
use Rattle.std.proofs.lemmas.List.Sums.{sum_by-take-drop}
use Rattle.bitvec_in_place.specs.Cursors.{reading}
use Rattle.bitvec_in_place.specs.Rows.{row_len}
use Rattle.bitvec_in_place.proofs.RowLemmas.{read-long, read-more, read-next, row_len-more, width-fits}
use Rattle.bitvec_in_place.proofs.reader.BitReader.take_row.Goals as goal

pub loop-field-preserved : goal.loop-field-preserved
loop-field-preserved g c =
    let was = c.loop-field.invariant in
    let read = c.take_next-field.ensures in
    let row = c.args.row.now in
    let i = c.loop-field.field-index in
    let more : i < length row = omega (arith, read-long _ _ _ _ i row c.loop-field.row was.row, c.loop-field-test.true) in
    let same = read-next _ _ _ _ i row c.loop-field.row was.row (0, 0) more in
    let width : (slice_index_or c.loop-field.row i (0, 0)).0 ≡ (slice_index_or row i (0, 0)).0 = ap (λ (field : ℕ × ℕ). field.0) same in
    let number = rw (was.keeps.bits, width) at read.number in
    let total = row_len-more row i (0, 0) more in
    record {
      row = rw width (read-more _ _ _ _ i row c.loop-field.row was.row (reading c.loop-field.self).position c.take_next-field.result (0, 0) number was.position more);
      keeps = record { bits = read.keeps.bits ∙ was.keeps.bits; start = read.keeps.start ∙ was.keeps.start };
      position = omega arith;
    }

pub take_next-field-requires-clause-bound : goal.take_next-field-requires-clause-bound
take_next-field-requires-clause-bound g c =
    let was = c.loop-field.invariant in
    let row = c.args.row.now in
    let i = c.loop-field.field-index in
    let more : i < length row = omega (arith, read-long _ _ _ _ i row c.loop-field.row was.row, c.loop-field-test.true) in
    rw (read-next _ _ _ _ i row c.loop-field.row was.row (0, 0) more) (width-fits row i (0, 0) c.requires more)

pub take_next-field-requires-clause-room : goal.take_next-field-requires-clause-room
take_next-field-requires-clause-room g c =
    let was = c.loop-field.invariant in
    let row = c.args.row.now in
    let i = c.loop-field.field-index in
    let more : i < length row = omega (arith, read-long _ _ _ _ i row c.loop-field.row was.row, c.loop-field-test.true) in
    let width : (slice_index_or c.loop-field.row i (0, 0)).0 ≡ (slice_index_or row i (0, 0)).0 = ap (λ (field : ℕ × ℕ). field.0) (read-next _ _ _ _ i row c.loop-field.row was.row (0, 0) more) in
    let total = row_len-more row i (0, 0) more in
    let rest = sum_by-take-drop (λ (field : ℕ × ℕ). field.0) row (i + 1) in
    let fits : row_len row ≤ c.remaining.result = (rw c.if-not-has_room.false at c.has_room.ensures).0 refl in
    let long = ap length was.keeps.bits in
    omega arith
