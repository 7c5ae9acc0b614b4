use Rattle.std.proofs.Common.{ap, length, sym, ◌∙◌}
use Rattle.std.proofs.lemmas.Iterator.Consumers.{YieldsList-end, YieldsList-from_shown}
use Rattle.std.proofs.lemmas.List.Folds.{flat_map-map}
use Rattle.std.specs.List.{flat_map}
use Rattle.bitvec.specs.Left.{TakesFirst, pieces_left}
use Rattle.bitvec.specs.ShowingLaws.{length-seen}
use Rattle.bitvec.specs.Views.{seen}
use Rattle.sieve.specs.Texts.{row_text}
use Rattle.sieve.proofs.TextLaws.{picture-rows}
use Rattle.sieve.proofs.print.print_picture.Goals as goal

pub returns : goal.returns
returns g c =
    let all = YieldsList-end (YieldsList-from_shown TakesFirst seen pieces_left (λ s t h. ap length h.0.0) (λ s x t h. h.0) c.into_iter-row-iterator.result)
    c.loop-row.yielded _ c.loop-row.yielded_by _ _ c.in-None.is c.next.ensures.steps in
    let pieces = all.0 ∙ ap pieces_left c.into_iter-row-iterator.ensures.into_iter_gives ∙ c.chunks-row-items.ensures.pieces in
    let rows = sym (flat_map-map (λ piece. row_text piece.bits) seen c.loop-row.yielded) ∙ ap (flat_map (λ piece. row_text piece.bits)) pieces
    ∙ picture-rows g.T.BitStore.BITS c.args.width (seen c.args.bits) (length-seen c.args.bits) in
    rw (← rows) c.loop-row.invariant
