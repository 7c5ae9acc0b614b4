use Rattle.std.proofs.Common.{◌-◌, arith, refl, rules}
use Rattle.std.proofs.lemmas.Nat.{mod_below}
use Rattle.bitvec_base.specs.declared.window.Window.{Window}
use Rattle.bitvec_store.specs.WidthLaws.{width_some}
use Rattle.bitvec_passes.proofs.MirroredLemmas.{amid-moved}
use Rattle.bitvec_passes.proofs.reversing.in_phase.Goals as goal

pub overflow_sub-before : goal.overflow_sub-before
overflow_sub-before g c =
    let before = c.requires.before in
    let below = mod_below c.args.other.start g.T.BitStore.BITS (width_some _ g.met.T.BitStore.width_law) in
    omega arith

pub overflow_sub-place : goal.overflow_sub-place
overflow_sub-place g c =
    let before = c.requires.before in
    let below = mod_below (c.args.window.start - c.phase-skip.result) g.T.BitStore.BITS (width_some _ g.met.T.BitStore.width_law) in
    omega arith

pub move_elements-requires-clause-bound : goal.move_elements-requires-clause-bound
move_elements-requires-clause-bound g c = rw c.phase-by.ensures (mod_below _ g.T.BitStore.BITS (width_some _ g.met.T.BitStore.width_law))

pub returns-then-by-gt0-clause-list : goal.returns-then-by-gt0-clause-list
returns-then-by-gt0-clause-list g c =
    let before = c.requires.before in
    let below = mod_below (c.args.window.start - c.phase-skip.result) g.T.BitStore.BITS (width_some _ g.met.T.BitStore.width_law) in
    let to : Window = record { start = c.args.window.start - c.phase-by.result; len = c.args.window.len } in
    let moved = amid-moved g.O.BitOrder.at _ to _ _ c.element-first.ensures c.touched-count.ensures.places c.requires c.if-by-gt0.true (omega arith) (omega arith) refl refl
    (rw c.new-cells.ensures.numbers at c.move_elements.ensures.writes) in
    search (rules, moved)
