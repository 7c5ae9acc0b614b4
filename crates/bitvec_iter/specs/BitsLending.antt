-- What a writable walk over single bits ends as where a bit was lent.
use Rattle.std.specs.Prelude.{◌≡◌, ℕ, ◌+◌, ◌-◌, ◌*◌, ◌≤◌, List, if◌then◌else◌, length, min, nat_lt}
use Rattle.std.specs.Borrow.{Fml, GName, MutBor, RattleType, Array, follows}
use Rattle.std.proofs.Common.{arith, subst, ◌∙◌, ap}
use Rattle.std.proofs.Math.Bridge.{le_prop}
use Rattle.bitvec_domain.specs.Refill.{refilled, length_refilled, of_lender, with_range}
use Rattle.bitvec_store.specs.declared.store.BitStore.{Ghosts as Store}
use Rattle.bitvec_base.specs.declared.order.BitOrder.{Ghosts as Order}
use Rattle.bitvec_base.specs.Window.{max_bits}
use Rattle.bitvec_slice.specs.Touched.{end_touched, first_touched}
use Rattle.bitvec_iter.specs.declared.lent_bits.IterMut.{IterMut}
use Rattle.bitvec_iter.specs.contracts.lent_bits.IterMut.{the_row}

module _ {T O : Type 0} {t : Store T} {o : Order O} where
  -- the walk as before, but for its elements, which are xs, cut or filled up to as many as before
  abbrev pub with_elements : IterMut T O t o → List T → IterMut T O t o
  with_elements i xs =
      record i {
        elements = refilled i.elements xs;
        inside = subst (λ (n : ℕ). i.head + i.len ≤ t.BITS * n) (length_refilled i.elements xs) i.inside;
        bounded = subst (λ (n : ℕ). t.BITS * n ≤ max_bits) (length_refilled i.elements xs) i.bounded;
      }

  -- The walk without its first bit.
  abbrev pub without_first : IterMut T O t o → IterMut T O t o
  without_first i = record i { front = i.front + 1 }

  -- The walk without its last bit.
  abbrev pub without_last : IterMut T O t o → IterMut T O t o
  without_last i = record i { back = i.back - 1; numbered = omega (arith, i.numbered) }

  -- The walk without its first `count` bits, or without all where it has fewer.
  abbrev pub passed : IterMut T O t o → ℕ → IterMut T O t o
  passed i count = record i { front = i.front + min count (i.back - i.front) }

  -- The walk without its last `count` bits, or without all where it has fewer.
  abbrev pub passed_back : IterMut T O t o → ℕ → IterMut T O t o
  passed_back i count = record i { back = i.back - min count (i.back - i.front); numbered = omega (arith, i.numbered) }

  -- The walk without its first bit, with `ws` in the element that this bit touches, or as it was where no bit is left.
  abbrev pub ends_next : IterMut T O t o → List T → IterMut T O t o
  ends_next from ws =
      let start = first_touched t.BITS (from.head + from.front) in
      let end = end_touched t.BITS (from.head + (from.front + 1)) in
      if nat_lt from.front from.back then with_elements (without_first from) (with_range from.elements.now start end ws) else with_elements from from.elements.now

  -- The walk without its last bit, with `ws` in the element that this bit touches, or as it was where no bit is left.
  abbrev pub ends_next_back : IterMut T O t o → List T → IterMut T O t o
  ends_next_back from ws =
      let start = first_touched t.BITS (from.head + (from.back - 1)) in
      let end = end_touched t.BITS (from.head + (from.back - 1 + 1)) in
      if nat_lt from.front from.back then with_elements (without_last from) (with_range from.elements.now start end ws) else with_elements from from.elements.now

  -- a walk is what its fields that aren't facts are
  module _ (i : IterMut T O t o) (front back : ℕ) where
    -- The walk with its bits left from `front` up to `back`.
    abbrev pub at : i.head + i.len ≤ t.BITS * length i.elements.now → t.BITS * length i.elements.now ≤ max_bits → back ≤ i.len → IterMut T O t o
    at inside bounded numbered = record i { front = front; back = back; inside = inside; bounded = bounded; numbered = numbered }

    -- A walk is told by its data, whichever proofs it has.
    pub same-walk : (inside inside' : i.head + i.len ≤ t.BITS * length i.elements.now) (bounded bounded' : t.BITS * length i.elements.now ≤ max_bits) (numbered numbered' : back ≤ i.len)
        → at inside bounded numbered ≡ at inside' bounded' numbered'
    same-walk inside inside' bounded bounded' numbered numbered' =
        ap (λ f. at f bounded numbered) (le_prop inside inside') ∙ ap (λ f. at inside' f numbered) (le_prop bounded bounded') ∙ ap (λ f. at inside' bounded' f) (le_prop numbered numbered')

    -- A walk with other elements is told by its data, whichever proofs it has.
    pub same-with : (inside inside' : i.head + i.len ≤ t.BITS * length i.elements.now) (bounded bounded' : t.BITS * length i.elements.now ≤ max_bits) {numbered numbered' : back ≤ i.len} (xs : List T)
        → with_elements (at inside bounded numbered) xs ≡ with_elements (at inside' bounded' numbered') xs
    same-with inside inside' bounded bounded' {numbered} {numbered'} xs = ap (λ q. with_elements q xs) (same-walk inside inside' bounded bounded' numbered numbered')

  module _ (i : IterMut T O t o) {front front' back back' : ℕ} where
    -- Walks with the same ends are equal, whichever proofs they have.
    pub same-at : front ≡ front' → back ≡ back' → {inside inside' : i.head + i.len ≤ t.BITS * length i.elements.now} {bounded bounded' : t.BITS * length i.elements.now ≤ max_bits} {numbered : back ≤ i.len} {numbered' : back' ≤ i.len}
        → at i front back inside bounded numbered ≡ at i front' back' inside' bounded' numbered'
    same-at first last {inside} {inside'} {bounded} {bounded'} {numbered} {numbered'} =
        subst (λ (b : ℕ). (n : b ≤ i.len) → at i front back inside bounded numbered ≡ at i front' b inside' bounded' n) last
        (λ n. same-walk i front back inside inside' bounded bounded' numbered n ∙ ap (λ (f : ℕ). at i f back inside' bounded' n) first) numbered'

module _ (T O : RattleType) {t : Store T.Denot} {o : Order O.Denot} where
  -- The elements from `start` up to `end` were lent under this name, and the walk ends as `next` with what is left there.
  abbrev pub lends_range : MutBor (IterMut T.Denot O.Denot t o) → IterMut T.Denot O.Denot t o → ℕ → ℕ → GName → Fml
  lends_range i next start end name = follows (the_row of_lender T O t o) (Array T 0) i.ghost_name name (λ ws. with_elements next (with_range i.now.elements.now start end ws))

  -- The elements from `start` up to `end` were lent under this name, and the walk ends as it was with what is left there.
  abbrev pub lends_part : MutBor (IterMut T.Denot O.Denot t o) → ℕ → ℕ → GName → Fml
  lends_part i start end name = lends_range i i.now start end name

  -- The elements that the bits from the index `from` up to `to` touch were lent under this name.
  abbrev pub lends_bits : MutBor (IterMut T.Denot O.Denot t o) → ℕ → ℕ → GName → Fml
  lends_bits i from to name = lends_part i (first_touched t.BITS (i.now.head + from)) (end_touched t.BITS (i.now.head + to)) name

  -- The element of the first bit left was lent under this name, and the walk ends without that bit.
  abbrev pub lends_first : MutBor (IterMut T.Denot O.Denot t o) → GName → Fml
  lends_first i name = lends_range i (without_first i.now) (first_touched t.BITS (i.now.head + i.now.front)) (end_touched t.BITS (i.now.head + (i.now.front + 1))) name

  -- The element of the last bit left was lent under this name, and the walk ends without that bit.
  abbrev pub lends_last : MutBor (IterMut T.Denot O.Denot t o) → GName → Fml
  lends_last i name = lends_range i (without_last i.now) (first_touched t.BITS (i.now.head + (i.now.back - 1))) (end_touched t.BITS (i.now.head + (i.now.back - 1 + 1))) name

  -- The element of the first bit left was lent and the walk ends without it; where no bit is left, it ends as it was.
  abbrev pub lends_next : MutBor (IterMut T.Denot O.Denot t o) → IterMut T.Denot O.Denot t o → GName → Fml
  lends_next i from name = follows (the_row of_lender T O t o) (Array T 0) i.ghost_name name (ends_next from)

  -- The element of the last bit left was lent and the walk ends without it; where no bit is left, it ends as it was.
  abbrev pub lends_next_back : MutBor (IterMut T.Denot O.Denot t o) → IterMut T.Denot O.Denot t o → GName → Fml
  lends_next_back i from name = follows (the_row of_lender T O t o) (Array T 0) i.ghost_name name (ends_next_back from)
