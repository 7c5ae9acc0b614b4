use Rattle.std.proofs.Common.{◌≡◌, ◌+◌, ◌≤◌, length, map, arith, sym, ◌∙◌, refl}
use Rattle.bitvec_base.specs.Memory.{list_in}
use Rattle.bitvec_base.specs.WritesLaws.{HasWindow-kept, Writes-holds, Writes-is, Writes-nothing, Writes-then, length-list}
use Rattle.bitvec_within.specs.Swaps.{swapped_within}
use Rattle.bitvec_within.proofs.Rotated.{Writes-behind, behind-none, first-exchanged, last-exchanged, rotated_behind}
use Rattle.bitvec_within.proofs.rotating.rotate_blocks.Goals.{then-count-left, else-count-left}
use Rattle.bitvec_within.proofs.rotating.rotate_blocks.Goals as goal

pub loop-count-init : goal.loop-count-init
loop-count-init g c =
    let b = g.T.BitStore.BITS in
    let at = g.O.BitOrder.at in
    let now = map g.T.BitStore.value c.args.elements.now in
    record {
      within = let fits = c.requires.bound in omega arith;
      shorter = let count = c.min-count.ensures in omega arith;
      writes = Writes-nothing at now c.requires.window refl;
      rotated = behind-none (list_in b at now c.args.window) c.args.by;
    }

pub loop-count-preserved : goal.loop-count-preserved
loop-count-preserved g c =
    let b = g.T.BitStore.BITS in
    let at = g.O.BitOrder.at in
    let value = g.T.BitStore.value in
    let window = c.args.window in
    let inv = c.loop-count.invariant in
    let before = map value c.args.elements.now in
    let now = map value c.loop-count.elements in
    let new = map value c.swap_ranges.new.elements in
    let list = list_in b at now window in
    let done = c.loop-count.done in
    let left = c.loop-count.left in
    let count = c.loop-count.count in
    let has = HasWindow-kept now c.requires.window inv.writes.elements in
    let long : length list ≡ window.len = length-list at has in
    let within = inv.within in
    let shorter = inv.shorter in
    let swapped = c.swap_ranges.ensures.writes in
    let holds = Writes-holds has swapped in
    let same : rotated_behind (done + count) c.if-count-left.left (swapped_within done (done + count) (done + left) list) ≡ rotated_behind done left list =
    elim c.if-count-left.branch [
      | then-count-left w ↦ let less = w.if-count-left in rw w.left-is (last-exchanged list done left count (omega arith) (omega arith))
      | else-count-left w ↦ let most = w.if-count-left in let is : count ≡ left = omega arith in rw (w.left-is, is) (first-exchanged list done left (omega arith))
    ] in
    let rest : done + count + c.if-count-left.left ≤ window.len =
    elim c.if-count-left.branch [
      | then-count-left w ↦ let less = w.if-count-left in let is = w.left-is in omega arith
      | else-count-left w ↦ let most = w.if-count-left in let is = w.left-is in omega arith
    ] in
    record {
      within = rest;
      shorter = c.min-count-in-loop-count.ensures;
      writes = Writes-is (Writes-then c.requires.window inv.writes swapped) (sym holds);
      rotated = rw holds (same ∙ inv.rotated);
    }

pub returns-then-count-left-2 : goal.returns-then-count-left-2
returns-then-count-left-2 g c =
    let inv = c.loop-count.invariant in
    let within = inv.within in
    record { writes = Writes-behind _ _ _ _ _ c.args.window c.loop-count.done c.loop-count.left _ c.requires.window (omega arith) inv.writes (rw c.after-rest.ensures at c.rotate_front.ensures.writes) inv.rotated }

pub returns-else-count-left-2 : goal.returns-else-count-left-2
returns-else-count-left-2 g c =
    let inv = c.loop-count.invariant in
    let within = inv.within in
    record { writes = Writes-behind _ _ _ _ _ c.args.window c.loop-count.done c.loop-count.left _ c.requires.window (omega arith) inv.writes (rw c.after-rest.ensures at c.rotate_back.ensures.writes) inv.rotated }
