use Rattle.std.proofs.Common.{◌≡◌, ◌+◌, ◌-◌, ◌≤◌, ◌∙◌, ap, arith, map, ⊎_elim}
use Rattle.bitvec_base.specs.Memory.{list_in}
use Rattle.bitvec_base.specs.WritesLaws.{Writes-is, length-list}
use Rattle.bitvec_within.specs.Swaps.{swapped_within}
use Rattle.bitvec_within.proofs.Swapped.{swapped-reordered}
use Rattle.bitvec_within.proofs.swapping_within.swap_within_in.Goals as goal

pub returns-else-src-dest : goal.returns-else-src-dest
returns-else-src-dest g c =
    let list = list_in g.T.BitStore.BITS g.O.BitOrder.at (map g.T.BitStore.value c.args.elements.now) c.args.window in
    let long = length-list g.O.BitOrder.at c.requires.window in
    let from = c.args.src.start in
    let len = c.args.src.end - from in
    let apart : c.args.dest + len ≤ from = ⊎_elim (λ before. absurd (omega arith)) (λ behind. behind) c.requires.apart in
    let end : from + len ≡ c.args.src.end = omega (arith, c.requires.fits.order) in
    record {
      writes = Writes-is c.swap_ranges-else-src-dest.ensures.writes
          (swapped-reordered list c.args.dest from len apart (omega (arith, c.requires.fits.source)) ∙ ap (λ to. swapped_within from to c.args.dest list) end);
    }
