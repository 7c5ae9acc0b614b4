use Rattle.std.proofs.Common.{◌≡◌, length, map, sym, ◌∙◌, arith, eqb-true, ◌<◌}
use Rattle.std.specs.Prelude.{string_bytes}
use Rattle.std.proofs.lemmas.Bool.{eqb-false}
use Rattle.std.proofs.lemmas.List.{length-map}
use Rattle.packet.specs.Arguments.{named}
use Rattle.packet.proofs.EndLaws.{ends-fields, ends-packet}
use Rattle.packet.proofs.program.work.Goals as goal

pub returns-then-is_empty : goal.returns-then-is_empty
returns-then-is_empty g c =
    let many = length-map c.in-Ok.assignments.items named in
    let empty = eqb-true _ _ (sym c.is_empty.ensures ∙ c.if-is_empty.true) in
    let none : length (map named c.in-Ok.assignments.items) ≡ 0 = omega arith in
    ends-fields (map string_bytes c.args.words.now) (map named c.in-Ok.assignments.items) _ _ _ _ c.show.result c.in-Ok.ensures.assignments none c.show.ensures

pub returns : goal.returns
returns g c =
    let many = length-map c.in-Ok.assignments.items named in
    let full = eqb-false _ _ (sym c.is_empty.ensures ∙ c.if-is_empty.false) in
    let some : 0 < length (map named c.in-Ok.assignments.items) = omega arith in
    ends-packet (map string_bytes c.args.words.now) (map named c.in-Ok.assignments.items) _ _ _ _ c.change.result c.in-Ok.ensures.assignments some (rw c.as_slice.ensures.value at c.change.ensures)
