use Rattle.std.proofs.Common.{◌≡◌, ◌∙◌, ◌*◌, ap, arith, length, map, refl, rules, sym}
use Rattle.std.proofs.lemmas.List.{length-map}
use Rattle.bitvec_base.specs.Memory.{memory_bits}
use Rattle.bitvec_base.specs.WriteLaws.{write_at-nil}
use Rattle.bitvec_slice.specs.SeenLaws.{length-memory}
use Rattle.bitvec_slice.specs.ShowingLaws.{length-seen}
use Rattle.bitvec_slice.specs.Views.{seen}
use Rattle.bitvec_owned.proofs.Repeats.{repeat-fits, repeat-next}
use Rattle.bitvec_owned.proofs.repeating.write_copies.Goals as goal

pub loop-number-init : goal.loop-number-init
loop-number-init g c =
    (sym (write_at-nil (memory_bits g.T.BitStore.BITS g.O.BitOrder.at (map g.T.BitStore.value c.args.elements.now)) 0 (omega arith)), refl)

pub copy_from_block_in-requires-clause-window : goal.copy_from_block_in-requires-clause-window
copy_from_block_in-requires-clause-window g c =
    let bits = (seen c.args.view).bits in
    let long = length-seen c.args.view in
    let same : c.window-from.result.len ≡ (seen c.args.view).window.len = ap (λ w. w.len) c.window-from.ensures.value in
    let fits = repeat-fits bits c.loop-number.number c.args.copies (g.T.BitStore.BITS * length c.args.elements.now) (omega arith) (rw long c.requires.room) in
    let spread = rw long at fits in
    let size : length (map g.T.BitStore.value c.loop-number.elements) ≡ length c.args.elements.now = length-map c.loop-number.elements g.T.BitStore.value ∙ c.loop-number.invariant.1 in
    rw (same) (record { fits = rw size c.requires.fits; within = record { start = rw size (omega arith); len = rw size (omega arith) } })

pub loop-number-preserved : goal.loop-number-preserved
loop-number-preserved g c =
    let bits = (seen c.args.view).bits in
    let long = length-seen c.args.view in
    let writes = rw (c.elements.ensures, c.window-from.ensures.value) at c.copy_from_block_in.ensures.writes in
    let memory = length-memory g.T.BitStore.BITS g.O.BitOrder.at g.T.BitStore.value c.args.elements.now in
    (repeat-next bits _ _ _ c.loop-number.number c.args.copies (omega arith) (rw (memory, long) c.requires.room) c.loop-number.invariant.0 (rw long writes.bits), search rules)
