-- The pieces of a view that is cut into numbered ones: how many there are, and each; and that a walk gives them in their order.
use Rattle.std.specs.Prelude.{◌≡◌, ℕ, ◌-◌, ◌<◌, length, slice_index_or}
use Rattle.std.specs.declared.ops.Range.{Range}
use Rattle.std.proofs.Common.{arith, ap, ◌∙◌}
use Rattle.std.proofs.lemmas.Iterator.{YieldsList}
use Rattle.std.proofs.lemmas.Iterator.Consumers.{YieldsList-from_shown}
use Rattle.bitvec_cutting.specs.WalkLaws.{walk_at, walk_length}
use Rattle.bitvec_cutting.specs.declared.cutting.Cutting.{Ghosts as Cutting}
use Rattle.bitvec_iter.specs.Left.{TakesFirst, pieces_left}
use Rattle.bitvec_iter.specs.Parts.{parts_of, subview}
use Rattle.bitvec_iter.specs.declared.pieces.Pieces.{Pieces}
use Rattle.bitvec_slice.specs.Seen.{Seen}
use Rattle.bitvec_slice.specs.Views.{seen}
use Rattle.bitvec.specs.Types.{Order, Store}

module _ {T : Type 0} (b : ℕ) (view : Seen T) (pieces : ℕ → ℕ) (place : ℕ → ℕ → Range ℕ) where
  -- A view has as many pieces as the way to cut it says for its length.
  pub length-parts : length (parts_of b view pieces place) ≡ pieces view.window.len
  length-parts =
      let first : pieces view.window.len - 0 ≡ pieces view.window.len = omega arith in
      walk_length (λ number. subview b view (place view.window.len number)) 0 (pieces view.window.len) ∙ first

  -- Piece `k` has the bits of the range that the way to cut gives for it.
  pub get-parts : (k : ℕ) (d : Seen T) → k < pieces view.window.len → slice_index_or (parts_of b view pieces place) k d ≡ subview b view (place view.window.len k)
  get-parts k d below = walk_at (λ number. subview b view (place view.window.len number)) 0 (pieces view.window.len) k k d (omega arith) (omega arith)

module _ {T O C : Type 0} {t : Store T} {o : Order O} {c : Cutting C} where
  -- A walk gives the pieces that are still to come, in their order, as std's laws of `position`, `find`, `any` and `all` ask for.
  pub pieces_yield : (it : Pieces T O C t o c) → YieldsList TakesFirst (seen {t = t} {o = o}) it (pieces_left it)
  pieces_yield it = YieldsList-from_shown TakesFirst seen pieces_left (λ s u h. ap length h.0.0) (λ s x u h. h.0) it
