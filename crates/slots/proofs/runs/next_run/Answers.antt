use Rattle.std.proofs.Common.{◌+◌, true, false, sym, ap, ◌∙◌, arith}
use Rattle.bitvec.specs.FoundLaws.{first_in-below}
use Rattle.bitvec.specs.Lists.{first_place}
use Rattle.bitvec.specs.RangeBitsLaws.{bits_in-range}
use Rattle.bitvec.specs.Views.{seen}
use Rattle.slots.proofs.RunLaws.{run-to_end, run-to_free}
use Rattle.slots.proofs.runs.next_run.Goals as goal

pub overflow_add-start : goal.overflow_add-start
overflow_add-start g c =
    let list = (seen c.args.places).bits in
    let len = c.len-len.result in
    let found = ap (first_place true) (bits_in-range list c.args.from len ∙ sym c.into_part.ensures.bits) ∙ sym c.first_one.ensures ∙ c.in_ok-start.was in
    let below = first_in-below true list c.args.from len (omega arith) c.in_ok-start.field-0 found in
    omega arith

pub overflow_add-end : goal.overflow_add-end
overflow_add-end g c =
    let list = (seen c.args.places).bits in
    let len = c.len-len.result in
    let start = c.args.from + c.in_ok-start.field-0 in
    let after = ap (first_place false) (bits_in-range list start len ∙ sym c.into_part-2.ensures.bits) ∙ sym c.first_zero.ensures ∙ c.in-Some.is in
    let within = first_in-below false list start len (omega arith) c.in-Some.free after in
    omega arith

pub returns-in-Some-clause-run : goal.returns-in-Some-clause-run
returns-in-Some-clause-run g c =
    let list = (seen c.args.places).bits in
    let len = c.len-len.result in
    let start = c.args.from + c.in_ok-start.field-0 in
    let found = ap (first_place true) (bits_in-range list c.args.from len ∙ sym c.into_part.ensures.bits) ∙ sym c.first_one.ensures ∙ c.in_ok-start.was in
    let after = ap (first_place false) (bits_in-range list start len ∙ sym c.into_part-2.ensures.bits) ∙ sym c.first_zero.ensures ∙ c.in-Some.is in
    run-to_free list c.args.from len c.in_ok-start.field-0 (omega arith) found c.in-Some.free after

pub returns-in-None-clause-run : goal.returns-in-None-clause-run
returns-in-None-clause-run g c =
    let list = (seen c.args.places).bits in
    let len = c.len-len.result in
    let start = c.args.from + c.in_ok-start.field-0 in
    let found = ap (first_place true) (bits_in-range list c.args.from len ∙ sym c.into_part.ensures.bits) ∙ sym c.first_one.ensures ∙ c.in_ok-start.was in
    let after = ap (first_place false) (bits_in-range list start len ∙ sym c.into_part-2.ensures.bits) ∙ sym c.first_zero.ensures ∙ c.in-None.is in
    run-to_end list c.args.from len c.in_ok-start.field-0 (omega arith) found (omega arith) after
