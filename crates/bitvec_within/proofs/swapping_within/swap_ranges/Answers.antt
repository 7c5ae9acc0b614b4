use Rattle.std.proofs.Common.{◌≡◌, ◌+◌, ◌-◌, ◌∙◌, ap, arith, map, inl}
use Rattle.bitvec_base.specs.Memory.{list_in}
use Rattle.bitvec_base.specs.WritesLaws.{Writes-next, length-list}
use Rattle.bitvec_within.specs.Swaps.{swapped_within}
use Rattle.bitvec_within.proofs.Swapped.{swapped-next}
use Rattle.bitvec_within.proofs.swapping_within.swap_ranges.Goals as goal

pub returns : goal.returns
returns g c =
    let list = list_in g.T.BitStore.BITS g.O.BitOrder.at (map g.T.BitStore.value c.args.elements.now) c.args.window in
    let long = length-list g.O.BitOrder.at c.requires.window in
    let first = c.args.first in
    let second = c.args.second in
    let len = c.args.len in
    let before = c.min-before.result in
    let all : before + (len - before) ≡ len = omega (arith, c.min-before.ensures) in
    let order = c.requires.order in
    let bound = c.requires.bound in
    record {
      writes = Writes-next (swapped_within (first + before) (first + before + (len - before)) (second + before)) c.requires.window c.swap_sides.ensures.writes c.swap_few-2.ensures.writes
          (swapped-next list first second before (len - before) (omega arith) (omega arith) (inl (omega arith)) ∙ ap (λ n. swapped_within first (first + n) second list) all);
    }
