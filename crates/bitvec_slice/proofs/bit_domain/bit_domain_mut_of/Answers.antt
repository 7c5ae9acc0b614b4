use Rattle.std.proofs.Common.{arith, ◌∙◌, ap}
use Rattle.std.proofs.lemmas.List.{length-map}
use Rattle.bitvec_slice.specs.Domains.{views_in}
use Rattle.bitvec_slice.proofs.bit_domain.bit_domain_mut_of.Goals as goal

pub part_view_mut-requires-clause-first : goal.part_view_mut-requires-clause-first
part_view_mut-requires-clause-first g c = omega arith

pub part_view_mut-requires-clause-within : goal.part_view_mut-requires-clause-within
part_view_mut-requires-clause-within g c =
    let within = c.in-Inside.ensures.within in
    let there = within.element in
    record { element = omega arith; order = within.order; bound = within.bound }

pub region-requires-clause-cut : goal.region-requires-clause-cut
region-requires-clause-cut g c = c.in-Across.ensures.within

pub region-requires-clause-fits : goal.region-requires-clause-fits
region-requires-clause-fits g c = rw length-map at c.requires.window.fits

pub returns-in-Across : goal.returns-in-Across
returns-in-Across g c = c.region.ensures ∙ ap (views_in g.T.BitStore.BITS g.O.BitOrder.at g.T.BitStore.value c.args.elements.now) c.in-Across.ensures.value
