use Rattle.std.proofs.Common.{◌≡◌, ◌-◌, ◌<◌, ◌≤◌, ◌%◌, map, take}
use Rattle.bitvec_base.specs.Memory.{Writes, list_in}
use Rattle.bitvec_elements.proofs.StoreLemmas.{until}
use Rattle.bitvec_checked.specs.Every.{with_every}
use Rattle.bitvec_checked.proofs.every.fill_blocks.Given as goal

abbrev pub invariant-loop-from : goal.invariant-loop-from
invariant-loop-from g l =
    let b = g.T.BitStore.BITS in
    let at = g.O.BitOrder.at in
    let before = map g.T.BitStore.value l.fn.elements in
    record {
      fits : l.from ≤ l.window.len;
      phase : l.from < l.window.len → l.from % l.step ≡ 0;
      writes : Writes b at before (map g.T.BitStore.value l.elements) (until l.window l.from) (take l.from (with_every l.step (λ k. l.bit) (list_in b at before l.window)));
    }

abbrev pub decreases-loop-from : goal.decreases-loop-from
decreases-loop-from g l = l.window.len - l.from
