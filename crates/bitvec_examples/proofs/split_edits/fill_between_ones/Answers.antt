use Rattle.std.proofs.Common.{rules, ◌≡◌, ◌∙◌, ap, false, replicate, slice_index_or, true}
use Rattle.std.proofs.lemmas.List.{get_or-replicate}
use Rattle.bitvec.specs.SplitEditsLaws.{each-bit}
use Rattle.bitvec.specs.Views.{seen_mut}
use Rattle.bitvec_examples.proofs.split_edits.fill_between_ones.Goals as goal

pub returns : goal.returns
returns g c =
    each-bit (λ old new. old ≡ true → new ≡ true) c.for_each_split_mut.ensures.edits (λ bit one. one) (λ f h k p q stepped i below one.
    let filled : (seen_mut q.now).bits ≡ replicate (seen_mut p.now).window.len true = search rules in
    ap (λ bits. slice_index_or bits i false) filled ∙ get_or-replicate _ i true false below)
