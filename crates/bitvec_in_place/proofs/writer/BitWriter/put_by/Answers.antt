use Rattle.std.proofs.Common.{◌≡◌, [], ◌∷◌, Bool, List, OnOk, ◌∙◌, arith, lit<, subst}
use Rattle.bitvec_base.specs.Memory.{memory_bits}
use Rattle.bitvec_base.specs.MemoryLaws.{length-memory_bits}
use Rattle.bitvec_base.specs.Window.{write_at}
use Rattle.bitvec_numbers.specs.Integers.{remainder_of}
use Rattle.bitvec_segments.specs.Segments.{segment_bits}
use Rattle.bitvec_slice.specs.Views.{seen}
use Rattle.bitvec_in_place.specs.Cursors.{writing}
use Rattle.bitvec_in_place.proofs.Cursors.{first_stored}
use Rattle.bitvec_in_place.proofs.writer.BitWriter.put_by.Goals as goal

pub returns-clause-bits : goal.returns-clause-bits
returns-clause-bits g c =
    let old = writing c.args.self.now in
    let number = remainder_of g.I.Integral.BITS (g.I.Integral.value c.args.value) in
    let whole = length-memory_bits 128 g.P.BitOrder.at (0 ∷ []) in
    let bound = g.met.I.Integral.bits_law in
    let part : (seen c.into_part.result).bits ≡ segment_bits g.P.WordOrder.HIGH c.args.width number =
    c.into_part.ensures.bits ∙ first_stored g.P.WordOrder.HIGH 128 _ (memory_bits 128 g.P.BitOrder.at (0 ∷ [])) c.args.width number (lit< tt) (omega arith) (c.from_slice.ensures.bits ∙ c.store_plain.ensures.bits) in
    subst (λ (l : List Bool). OnOk c.put_bits.result ((writing c.put_bits.new.self).bits ≡ write_at old.bits old.position l)) part c.put_bits.ensures.bits
