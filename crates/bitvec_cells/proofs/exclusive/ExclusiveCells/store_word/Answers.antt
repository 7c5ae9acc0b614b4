use Rattle.std.proofs.Common.{◌≡◌, ◌+◌, ◌-◌, ◌/◌, map, arith, ap, sym, ◌∙◌}
use Rattle.std.proofs.lemmas.List.{length-map, take_all}
use Rattle.bitvec_base.specs.WriteLaws.{length-slice_range}
use Rattle.bitvec_base.specs.Window.{write_at}
use Rattle.bitvec_cells.specs.PutLaws.{part-numbers}
use Rattle.bitvec_cells.proofs.exclusive.ExclusiveCells.store_word.Goals as goal

pub returns-clause-numbers : goal.returns-clause-numbers
returns-clause-numbers g c =
    let b = g.T.BitStore.BITS in
    let value = g.T.BitStore.value in
    let xs = c.args.self.now.cells.now in
    let ys = c.store_word.new.elements in
    let mapped = length-map xs value in
    let count : c.args.first + c.elements_of-count.result - c.args.first ≡ 64 / b = omega arith in
    let part = length-slice_range xs c.args.first (c.args.first + c.elements_of-count.result) (omega arith) in
    let long = c.store_word.auto.elements ∙ part in
    part-numbers value c.args.first (c.args.first + c.elements_of-count.result - c.args.first) xs ys long
    ∙ ap (write_at (map value xs) c.args.first) (ap (map value) (sym (take_all (64 / b) ys (omega arith))) ∙ c.store_word.ensures.digits)
