use Rattle.std.proofs.Common.{rules, arith, inl, true, ◌+◌, ◌≤◌}
use Rattle.bitvec.specs.Cursors.{limit_of, writing}
use Rattle.bitvec.specs.Laws.{cursors}
use Rattle.bitvec.specs.Rows.{HasRow, row_len}
use Rattle.bitvec.specs.RowsLaws.{row-kept}
use Rattle.bitvec_code_examples.proofs.long_rows.put_rows.Goals as goal

pub returns-clause-first : goal.returns-clause-first
returns-clause-first c =
    let start = c.new-writer.ensures.position in
    let limit = c.put_row.ensures.elements.limit in
    let fits = c.put_row-2.ensures.elements.fits in
    let taken : (writing c.new-writer.result).position + row_len c.args.first.now ≤ limit_of c.new-writer.result = search rules in
    let behind : row_len c.args.first.now ≤ (writing c.put_row.new.self).position = search rules in
    let has : HasRow true 8 (writing c.put_row.new.self).bits 0 c.args.first.now = search rules in
    let kept : HasRow true 8 (writing c.put_row-2.new.self).bits 0 c.args.first.now =
    row-kept true 8 _ _ _ _ c.put_row-2.ensures.outside 0 c.args.first.now has (omega (arith, start, limit, fits, taken)) (inl (omega (arith, behind))) in
    search (rules, cursors)
