use Rattle.std.proofs.Common.{◌+◌, arith, refl, ◌∙◌}
use Rattle.bitvec_base.specs.Memory.{element_bits}
use Rattle.bitvec_base.specs.MemoryLaws.{length-element_bits}
use Rattle.bitvec_words.specs.FieldLaws.{range-shifted}
use Rattle.bitvec_combine.proofs.acting_shifted.ShiftedPhases.beside.Goals as goal

pub returns-clause-value : goal.returns-clause-value
returns-clause-value g c =
    let b = g.D.Elem.BitStore.BITS in
    let front = element_bits b g.O.BitOrder.at (g.D.Elem.BitStore.value c.load_element_after-front.result.0) in
    let long = length-element_bits b g.O.BitOrder.at (g.D.Elem.BitStore.value c.load_element_after-front.result.0) in
    rw c.toward_end.ensures (range-shifted front c.args.index c.args.window.len (c.args.index + c.args.window.len) refl (omega arith) ∙ c.load_element_after-front.ensures.value)
