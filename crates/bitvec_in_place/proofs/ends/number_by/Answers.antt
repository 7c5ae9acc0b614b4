use Rattle.std.proofs.Common.{◌≡◌, [], ◌∷◌, Bool, List, ◌∙◌, ap, arith, slice_range, ℕ}
use Rattle.bitvec_base.specs.Memory.{memory_bits}
use Rattle.bitvec_base.specs.MemoryLaws.{length-memory_bits}
use Rattle.bitvec_numbers.specs.Integers.{integer_of}
use Rattle.bitvec_segments.specs.Segments.{segment_number}
use Rattle.bitvec_slice.specs.ShowingLaws.{length-seen}
use Rattle.bitvec_slice.specs.Views.{seen}
use Rattle.bitvec_in_place.proofs.Cursors.{first_written}
use Rattle.bitvec_in_place.proofs.ends.number_by.Goals as goal

pub returns : goal.returns
returns g c =
    let s = g.I.Integral.SIGNED in
    let high = g.P.WordOrder.HIGH in
    let bits = (seen c.args.view).bits in
    let part = seen c.into_part.result in
    let long = length-seen c.args.view in
    let whole = length-memory_bits 128 g.P.BitOrder.at (0 ∷ []) in
    let bound = g.met.I.Integral.bits_law in
    let first : slice_range (seen c.from_slice.result).bits 0 c.len-len.result ≡ bits = first_written _ (memory_bits 128 g.P.BitOrder.at (0 ∷ [])) bits c.len-len.result (omega arith) (omega arith) (c.from_slice.ensures.bits ∙ c.copy_from.ensures.bits) in
    c.plain_number.ensures
    ∙ ap (λ (n : ℕ). integer_of s n (segment_number high part.bits)) (omega (arith, c.into_part.ensures.len, long))
    ∙ ap (λ (l : List Bool). integer_of s (seen c.args.view).window.len (segment_number high l)) (c.into_part.ensures.bits ∙ first)
