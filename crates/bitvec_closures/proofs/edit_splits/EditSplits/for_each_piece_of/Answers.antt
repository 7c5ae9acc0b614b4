use Rattle.std.proofs.Common.{Some, [], refl}
use Rattle.bitvec_closures.specs.InPlaceLaws.{may-return, returned}
use Rattle.bitvec_closures.specs.ToSplit.{limited_at}
use Rattle.bitvec_closures.specs.SplitEdits.{Editing}
use Rattle.bitvec_closures.proofs.SplitCallsLaws.{ends-on, given-piece, next-on, piece-given, piece-lies, in_turn-may, in_turn-next}
use Rattle.bitvec_closures.proofs.edit_splits.EditSplits.for_each_piece_of.Goals as goal

pub edit-requires : goal.edit-requires
edit-requires g c = (in_turn-may c.loop-range.invariant.in_turn c.requires.edit).accepts _ (given-piece g.met.Self.View.shows_elements c.loop-range.invariant.in_turn c.in-Some.ensures.takes c.narrow-window.ensures)

pub stand_at-requires : goal.stand_at-requires
stand_at-requires g c =
    let sound = g.met.Self.View.shows_elements in
    let far = c.loop-range.invariant.in_turn in
    let takes = c.in-Some.ensures.takes in
    let narrowed = c.narrow-window.ensures in
    may-return sound (piece-lies sound far takes) narrowed ((in_turn-may c.loop-range.invariant.in_turn c.requires.edit).in_place _ _ _ (given-piece sound far takes narrowed) (_, c.edit.ensures))

pub loop-range-preserved : goal.loop-range-preserved
loop-range-preserved g c =
    let sound = g.met.Self.View.shows_elements in
    let far = c.loop-range.invariant.in_turn in
    let takes = c.in-Some.ensures.takes in
    let narrowed = c.narrow-window.ensures in
    let is = given-piece sound far takes narrowed in
    let kept = (in_turn-may c.loop-range.invariant.in_turn c.requires.edit).in_place _ _ _ is (_, c.edit.ensures) in
    let left = c.loop-range.left in
    let gave = next-on g.P.FnMut g.W.SplitKind.INCLUSIVE g.W.SplitKind.REVERSED _ (g.Self.Shows.shows c.args.self.now) left c.limited_step.new.left c.loop-range.pred c.limited_step.new.pred g.L.SplitLimit.LIMITED c.loop-range.count c.limited_step.new.count (Some c.in-Some.range) far.rest c.in-Some.ensures.piece in
    record {
      in_turn = in_turn-next sound far takes gave (piece-given sound far takes narrowed) c.edit.ensures kept (returned sound (piece-lies sound far takes) narrowed kept c.stand_at.ensures);
      callable = c.in-Some.ensures.callable;
    }

pub returns : goal.returns
returns g c =
    let far = c.loop-range.invariant.in_turn in
    let left = c.loop-range.left in
    let view = g.Self.Shows.shows c.args.self.now in
    let none = rw c.in_default.is at c.limited_step.ensures.piece in
    let last = limited_at view left c.loop-range.count c.loop-range.pred in
    let ended : Editing _ = record { bits = (g.Self.Shows.shows c.loop-range.self).bits; edit = c.loop-range.edit; number = c.loop-range.number } in
    let (all, gives, edits) = far.ends [] last ended refl refl in
    record {
      pieces = all;
      gives = record { last = last; gives = gives; ends = ends-on g.P.FnMut g.W.SplitKind.INCLUSIVE g.W.SplitKind.REVERSED (g.Self.Shows.shows c.loop-range.self) view left c.loop-range.pred g.L.SplitLimit.LIMITED c.loop-range.count _ none };
      edits = record { last = ended; edits = edits; bits = refl };
      stays = far.stays;
      written = g.met.Self.EditParts.written_so _ _ _ (record { bits = refl; stays = far.stays });
    }
