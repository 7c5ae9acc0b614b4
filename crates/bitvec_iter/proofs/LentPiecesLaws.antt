-- A walk is what its fields that aren't facts are.
use Rattle.std.specs.Prelude.{◌≡◌, ℕ, ◌+◌, ◌*◌, ◌≤◌, Bool, List, length}
use Rattle.std.proofs.Common.{◌∙◌, ap, subst}
use Rattle.std.proofs.Math.Bridge.{le_prop}
use Rattle.bitvec_store.specs.declared.store.BitStore.{Ghosts as Store}
use Rattle.bitvec_base.specs.declared.order.BitOrder.{Ghosts as Order}
use Rattle.bitvec_base.specs.Window.{max_bits}
use Rattle.std.specs.declared.ops.Range.{Range}
use Rattle.bitvec_domain.specs.Refill.{with_range}
use Rattle.bitvec_slice.specs.Seen.{IsRangeOf, Seen}
use Rattle.bitvec_slice.specs.Touched.{end_touched, first_touched}
use Rattle.bitvec_cutting.specs.declared.cutting.Cutting.{Ghosts as Cuts}
use Rattle.bitvec_iter.specs.PiecesLending.{with_elements}
use Rattle.bitvec_iter.specs.declared.lent_pieces.PiecesMut.{PiecesMut}

module _ {T O C : Type 0} {t : Store T} {o : Order O} {c : Cuts C} (p : PiecesMut T O C t o c) (front back : ℕ) (taken : Bool) where
  -- the walk at other numbers, with these facts
  abbrev pub at : p.head + p.len ≤ t.BITS * length p.elements.now → t.BITS * length p.elements.now ≤ max_bits → back ≤ c.pieces p.cutting p.len → PiecesMut T O C t o c
  at inside bounded numbered = record p { front = front; back = back; taken = taken; inside = inside; bounded = bounded; numbered = numbered }

  pub same-walk : (inside inside' : p.head + p.len ≤ t.BITS * length p.elements.now) (bounded bounded' : t.BITS * length p.elements.now ≤ max_bits) (numbered numbered' : back ≤ c.pieces p.cutting p.len)
      → at inside bounded numbered ≡ at inside' bounded' numbered'
  same-walk inside inside' bounded bounded' numbered numbered' =
      ap (λ i. at i bounded numbered) (le_prop inside inside') ∙ ap (λ b. at inside' b numbered) (le_prop bounded bounded') ∙ ap (λ n. at inside' bounded' n) (le_prop numbered numbered')

  same-with : (inside inside' : p.head + p.len ≤ t.BITS * length p.elements.now) (bounded bounded' : t.BITS * length p.elements.now ≤ max_bits) (numbered numbered' : back ≤ c.pieces p.cutting p.len) (xs : List T)
      → with_elements (at inside bounded numbered) xs ≡ with_elements (at inside' bounded' numbered') xs
  same-with inside inside' bounded bounded' numbered numbered' xs = ap (λ q. with_elements q xs) (same-walk inside inside' bounded bounded' numbered numbered')

  -- the elements were lent that the bits of a range touch
  pub same-lent : {lent range : Range ℕ} → lent ≡ range → (inside inside' : p.head + p.len ≤ t.BITS * length p.elements.now) (bounded bounded' : t.BITS * length p.elements.now ≤ max_bits) {numbered numbered' : back ≤ c.pieces p.cutting p.len} (ws : List T)
      → with_elements (at inside bounded numbered) (with_range p.elements.now (first_touched t.BITS (p.head + lent.start)) (end_touched t.BITS (p.head + lent.end)) ws) ≡ with_elements (at inside' bounded' numbered') (with_range p.elements.now (first_touched t.BITS (p.head + range.start)) (end_touched t.BITS (p.head + range.end)) ws)
  same-lent {lent} {range} is inside inside' bounded bounded' {numbered} {numbered'} ws = rw is (same-with inside inside' bounded bounded' numbered numbered' (with_range p.elements.now (first_touched t.BITS (p.head + range.start)) (end_touched t.BITS (p.head + range.end)) ws))

module _ {T O C : Type 0} {t : Store T} {o : Order O} {c : Cuts C} (p : PiecesMut T O C t o c) {front front' back back' : ℕ} (taken : Bool) where
  pub same-at : front ≡ front' → back ≡ back' → {inside inside' : p.head + p.len ≤ t.BITS * length p.elements.now} {bounded bounded' : t.BITS * length p.elements.now ≤ max_bits} {numbered : back ≤ c.pieces p.cutting p.len} {numbered' : back' ≤ c.pieces p.cutting p.len}
      → at p front back taken inside bounded numbered ≡ at p front' back' taken inside' bounded' numbered'
  same-at first last {inside} {inside'} {bounded} {bounded'} {numbered} {numbered'} =
      subst (λ (b : ℕ). (n : b ≤ c.pieces p.cutting p.len) → at p front back taken inside bounded numbered ≡ at p front' b taken inside' bounded' n) last
      (λ n. same-walk p front back taken inside inside' bounded bounded' numbered n ∙ ap (λ (f : ℕ). at p f back taken inside' bounded' n) first) numbered'

-- a part at a range, where the range is known
pub part-at : {T : Type 0} {b : ℕ} {view part : Seen T} {lent range : Range ℕ} → lent ≡ range → IsRangeOf b view lent.start lent.end part → IsRangeOf b view range.start range.end part
part-at {T} {b} {view} {part} is shown = subst (λ (r : Range ℕ). IsRangeOf b view r.start r.end part) is shown
