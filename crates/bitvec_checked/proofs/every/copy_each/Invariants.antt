use Rattle.std.proofs.Common.{false, get_or, map}
use Rattle.bitvec_base.specs.Memory.{Writes, list_in}
use Rattle.bitvec_checked.proofs.EveryLemmas.{with_first}
use Rattle.bitvec_checked.specs.Every.{every}
use Rattle.bitvec_checked.proofs.every.copy_each.Given as goal

abbrev pub invariant-loop-place : goal.invariant-loop-place
invariant-loop-place g l =
    let b = g.T.BitStore.BITS in
    let at = g.O.BitOrder.at in
    let before = map g.T.BitStore.value l.fn.elements in
    let source = every l.right_step (list_in b at (map g.T.BitStore.value l.right) l.right_window) in
    Writes b at before (map g.T.BitStore.value l.elements) l.window (with_first l.place l.step (λ k. get_or source k false) (list_in b at before l.window))
