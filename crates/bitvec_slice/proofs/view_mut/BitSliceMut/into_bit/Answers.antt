use Rattle.std.proofs.Common.{◌≡◌, ℕ, ◌+◌, Bool, List, false, slice_index_or, arith, ◌∙◌, ap}
use Rattle.bitvec_base.specs.WriteLaws.{get-slice_range}
use Rattle.bitvec_slice.specs.Views.{seen_mut}
use Rattle.bitvec_slice.proofs.view_mut.BitSliceMut.into_bit.Goals as goal

pub returns : goal.returns
returns g c =
    let index = c.args.index in
    let bits = (seen_mut c.args.self).bits in
    let here : index + 0 ≡ index = omega arith in
    record {
      bit = c.into_reference.ensures.bit
          ∙ ap (λ (list : List Bool). slice_index_or list 0 false) c.into_part.ensures.bits
          ∙ get-slice_range bits index (index + 1) 0 false (omega arith)
          ∙ ap (λ (place : ℕ). slice_index_or bits place false) here;
      place = c.into_reference.ensures.place ∙ c.into_part.ensures.start;
      elements = c.into_reference.ensures.elements ∙ c.into_part.ensures.elements;
    }
