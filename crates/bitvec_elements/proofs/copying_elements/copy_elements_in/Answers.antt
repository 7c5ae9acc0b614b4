use Rattle.std.proofs.Common.{◌∙◌, sym}
use Rattle.bitvec_elements.proofs.ElementLemmas.{same-phase}
use Rattle.bitvec_elements.proofs.StoreLemmas.{stretches-copied}
use Rattle.bitvec_elements.proofs.copying_elements.copy_elements_in.Goals as goal

pub copy_whole_in-requires-clause-right_edge : goal.copy_whole_in-requires-clause-right_edge
copy_whole_in-requires-clause-right_edge g c = rw c.range-4.ensures (sym (same-phase _ _ _ _ c.requires.phases) ∙ c.whole_range-first.ensures.edge)

pub copy_part_in-requires-2-clause-phases : goal.copy_part_in-requires-2-clause-phases
copy_part_in-requires-2-clause-phases g c = rw (c.range-place.ensures, c.range-source.ensures) (same-phase _ _ _ _ c.requires.phases)

pub returns : goal.returns
returns g c = record {
  writes = stretches-copied _ c.args.to c.args.from _ _ (record { window = c.requires.span.window; beside = c.requires.span.beside; lengths = c.requires.span.lengths }) c.whole_range-first.ensures.order c.whole_range-first.ensures.bound
      c.range.ensures c.range-2.ensures c.copy_part_in.ensures.writes c.range-3.ensures c.range-4.ensures c.copy_whole_in.ensures.writes c.range-place.ensures c.range-source.ensures c.copy_part_in-2.ensures.writes;
}
