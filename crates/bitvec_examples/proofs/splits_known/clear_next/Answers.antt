use Rattle.std.proofs.Common.{◌≡◌, ℕ, List, subst}
use Rattle.bitvec.specs.Kept.{KeepsOutside}
use Rattle.bitvec.specs.Seen.{Seen}
use Rattle.bitvec.specs.SplitFoundLaws.{found-keeps}
use Rattle.bitvec.specs.WidthLaws.{width_some}
use Rattle.bitvec_examples.proofs.splits_known.clear_next.Goals as goal

-- finding a piece left the view as it was
kept : {X : Type 0} (start end : ℕ) {shown view : Seen X} (new : List X) → shown ≡ view → KeepsOutside start end shown.elements new → KeepsOutside start end view.elements new
kept start end new same keeps = subst (λ v. KeepsOutside start end v.elements new) same keeps

pub returns-then-found-clause-elements : goal.returns-then-found-clause-elements
returns-then-found-clause-elements g c =
    kept _ _ _ c.advance-found.ensures.stays.view (found-keeps c.advance-found.new.self _ (width_some _ g.met.T.BitStore.width_law))

pub returns-else-found-clause-elements : goal.returns-else-found-clause-elements
returns-else-found-clause-elements g c =
    kept _ _ _ c.advance-found.ensures.stays.view (found-keeps c.advance-found.new.self _ (width_some _ g.met.T.BitStore.width_law))
