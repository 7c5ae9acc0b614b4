-- What a walk over the pieces of a view, such as `chunks` of `bitvec`, has still to give.
use Rattle.std.specs.Prelude.{◌≡◌, ℕ, List, Option}
use Rattle.std.specs.Iterator.{YieldsFirstBy, YieldsLastBy}
use Rattle.std.specs.Iterator.Runs.{EveryRun, ItemsMapTo, ItemsMapToReversed}
use Rattle.bitvec_store.specs.declared.store.BitStore.{Ghosts as Store}
use Rattle.bitvec_base.specs.declared.order.BitOrder.{Ghosts as Order}
use Rattle.bitvec_cutting.specs.Walks.{walk}
use Rattle.bitvec_cutting.specs.declared.cutting.Cutting.{Ghosts as Cutting}
use Rattle.bitvec_slice.specs.Seen.{Seen}
use Rattle.bitvec_slice.specs.Views.{seen}
use Rattle.bitvec_slice.specs.declared.view.BitSlice.{BitSlice}
use Rattle.bitvec_iter.specs.Parts.{subview}
use Rattle.bitvec_iter.specs.declared.pieces.Pieces.{Pieces}

module _ {T O C : Type 0} {t : Store T} {o : Order O} {c : Cutting C} where
  -- The view over whose pieces the walk goes.
  abbrev pub walked : Pieces T O C t o c → Seen T
  walked walk = seen walk.view

  -- The way in which the walk cuts its view.
  abbrev pub cut_by : Pieces T O C t o c → C
  cut_by walk = walk.cutting

  -- The piece with this number.
  abbrev pub piece_at : Pieces T O C t o c → ℕ → Seen T
  piece_at walk number = subview t.BITS (seen walk.view) (c.place walk.cutting (seen walk.view).window.len number)

  -- the pieces that are still to come
  unfoldable pub pieces_left : Pieces T O C t o c → List (Seen T)
  pieces_left it = walk (piece_at it) it.numbers.start it.numbers.end

  -- The walk goes on over the same view, cut in the same way.
  pub record KeepsView (before after : Pieces T O C t o c) : Type 0 where
    pub view : walked after ≡ walked before
    pub cutting : cut_by after ≡ cut_by before

  -- A call gave the first of the pieces still to come and left the others, or gave `None` where there were none.
  abbrev pub TakesFirst : Pieces T O C t o c → Option (BitSlice T O t o) → Pieces T O C t o c → Type 0
  TakesFirst before piece after = YieldsFirstBy (seen {t = t} {o = o}) pieces_left before piece after × KeepsView before after

  -- A call gave the last of the pieces still to come and left the others, or gave `None` where there were none.
  abbrev pub TakesLast : Pieces T O C t o c → Option (BitSlice T O t o) → Pieces T O C t o c → Type 0
  TakesLast before piece after = YieldsLastBy (seen {t = t} {o = o}) pieces_left before piece after × KeepsView before after

  -- What calls of `next`, or of `next_back`, give is the pieces still to come, in their order, or from the end.
  pub record YieldsPieces (it : Pieces T O C t o c) : Type 0 where
    pub front : EveryRun TakesFirst (λ p. ItemsMapTo p seen (pieces_left p.from))
    pub back : EveryRun TakesLast (λ p. ItemsMapToReversed p seen (pieces_left p.from))
