use Rattle.std.specs.Prelude.{◌≡◌, ◌*◌, false, length, map, replicate}
use Rattle.std.proofs.Common.{◌∙◌, arith}
use Rattle.std.proofs.lemmas.Grind.{common_steps}
use Rattle.bitvec_base.specs.Memory.{memory_bits}
use Rattle.bitvec_copying.specs.ElementsLaws.{refilled, same_length, zeros}
use Rattle.bitvec_copying.proofs.copying.copied.Goals as goal

pub copy_from_block_in-requires-clause-window : goal.copy_from_block_in-requires-clause-window
copy_from_block_in-requires-clause-window g c = grind (arith, common_steps, g.met.T.BitStore.width_law)

pub returns-clause-bits : goal.returns-clause-bits
returns-clause-bits g c =
    let b = g.T.BitStore.BITS in
    let value = g.T.BitStore.value in
    let new = c.copy_from_block_in.new.left in
    let elements = c.in_ok-elements.elements in
    let writes = rw (c.elements.ensures, c.window-from.ensures.value) at c.copy_from_block_in.ensures.writes in
    let many : length new ≡ length c.as_mut_slice.result.now = same_length value _ _ c.copy_from_block_in.ensures.writes.elements in
    let all = refilled new elements.items elements.len (many ∙ c.as_mut_slice.ensures.len) in
    let before : memory_bits b g.O.BitOrder.at (map value c.as_mut_slice.result.now) ≡ replicate (b * elements.len) false =
    rw (c.as_mut_slice.ensures.value, c.in_ok-elements.ensures.items, c.in_ok-elements.ensures.len) (zeros b g.O.BitOrder.at value g.T.BitStore.ZERO c.div_ceil-count.result g.met.T.BitStore.zero_law) in
    rw (all, ← before) writes.bits
