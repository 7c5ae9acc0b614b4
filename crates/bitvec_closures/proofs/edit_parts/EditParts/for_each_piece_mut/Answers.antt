use Rattle.std.proofs.Common.{arith, refl}
use Rattle.bitvec_closures.proofs.NumberedLaws.{next-is, next-lies, pieces-all, pieces-next, pieces-none}
use Rattle.bitvec_closures.specs.InPlaceLaws.{may-return, returned}
use Rattle.bitvec_closures.proofs.edit_parts.EditParts.for_each_piece_mut.Goals as goal

pub loop-number-init : goal.loop-number-init
loop-number-init g c = pieces-none

pub narrow-window-requires : goal.narrow-window-requires
narrow-window-requires g c =
    let sound = g.met.Self.View.shows_elements in
    let below = rw (c.count-number-end.ensures, c.window-len.ensures.value) at c.loop-number-test.true in
    rw (c.piece.ensures, c.window-len.ensures.value) (next-lies sound c.requires.apart (g.met.C.Cutting.inside c.args.cutting _) c.loop-number.invariant below)

pub edit-requires : goal.edit-requires
edit-requires g c =
    let sound = g.met.Self.View.shows_elements in
    let below = rw (c.count-number-end.ensures, c.window-len.ensures.value) at c.loop-number-test.true in
    let narrowed = rw (c.piece.ensures, c.window-len.ensures.value) at c.narrow-window.ensures in
    let is = next-is sound c.requires.apart (g.met.C.Cutting.inside c.args.cutting _) c.loop-number.invariant below (g.met.C.Cutting.few c.args.cutting _) narrowed in
    (c.requires.edit.at _ _ _ c.loop-number.invariant.in_turn).accepts _ is

pub stand_at-requires : goal.stand_at-requires
stand_at-requires g c =
    let sound = g.met.Self.View.shows_elements in
    let below = rw (c.count-number-end.ensures, c.window-len.ensures.value) at c.loop-number-test.true in
    let narrowed = rw (c.piece.ensures, c.window-len.ensures.value) at c.narrow-window.ensures in
    let lies = next-lies sound c.requires.apart (g.met.C.Cutting.inside c.args.cutting _) c.loop-number.invariant below in
    let is = next-is sound c.requires.apart (g.met.C.Cutting.inside c.args.cutting _) c.loop-number.invariant below (g.met.C.Cutting.few c.args.cutting _) narrowed in
    may-return sound lies narrowed ((c.requires.edit.at _ _ _ c.loop-number.invariant.in_turn).in_place _ _ _ is (_, c.edit.ensures))

pub loop-number-preserved : goal.loop-number-preserved
loop-number-preserved g c =
    let sound = g.met.Self.View.shows_elements in
    let below = rw (c.count-number-end.ensures, c.window-len.ensures.value) at c.loop-number-test.true in
    let narrowed = rw (c.piece.ensures, c.window-len.ensures.value) at c.narrow-window.ensures in
    let inside = g.met.C.Cutting.inside c.args.cutting _ in
    let far = c.loop-number.invariant in
    let lies = next-lies sound c.requires.apart inside far below in
    let is = next-is sound c.requires.apart inside far below (g.met.C.Cutting.few c.args.cutting _) narrowed in
    let stays = (c.requires.edit.at _ _ _ far.in_turn).in_place _ _ _ is (_, c.edit.ensures) in
    pieces-next sound c.requires.apart inside far below is c.edit.ensures stays (returned sound lies narrowed stays c.stand_at.ensures)

pub returns : goal.returns
returns g c =
    let done = c.loop-number.invariant in
    let all = rw (c.count-number-end.ensures, c.window-len.ensures.value) at c.loop-number-test.false in
    pieces-all done (omega (arith, all)) (g.met.Self.EditParts.written_so _ _ _ (record { bits = refl; stays = done.stays }))
