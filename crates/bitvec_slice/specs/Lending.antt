-- What a writable view ends as, where a piece of it or its elements were lent.
use Rattle.std.specs.Prelude.{ℕ, ◌+◌, ◌*◌, ◌≤◌, List}
use Rattle.std.specs.Borrow.{Fml, GName, MutBor, RattleType, Array, follows}
use Rattle.std.proofs.Common.{subst}
use Rattle.bitvec_slice.specs.Touched.{end_touched, first_touched}
use Rattle.bitvec_domain.specs.Refill.{refilled, length_refilled, of_lender, with_range}
use Rattle.bitvec_store.specs.declared.store.BitStore.{Ghosts as Store}
use Rattle.bitvec_base.specs.declared.order.BitOrder.{Ghosts as Order}
use Rattle.bitvec_base.specs.Window.{max_bits}
use Rattle.bitvec_slice.specs.declared.view_mut.BitSliceMut.{BitSliceMut}
use Rattle.bitvec_slice.specs.contracts.view_mut.BitSliceMut.{the_row}

module _ {T O : Type 0} {t : Store T} {o : Order O} where
  -- the view as before, but for its elements, which are xs, cut or filled up to as many as before
  abbrev pub with_elements : BitSliceMut T O t o → List T → BitSliceMut T O t o
  with_elements v xs =
      record v {
        elements = refilled v.elements xs;
        inside = subst (λ (n : ℕ). v.head + v.len ≤ t.BITS * n) (length_refilled v.elements xs) v.inside;
        bounded = subst (λ (n : ℕ). t.BITS * n ≤ max_bits) (length_refilled v.elements xs) v.bounded;
      }

-- The type of a writable view, at a lender's lifetime.
abbrev pub view_row : (T O : RattleType) → Store T.Denot → Order O.Denot → RattleType
view_row T O t o = the_row of_lender T O t o

-- The elements of the view `v` were lent under this name among borrows, and `v` ends with what is left there.
abbrev pub lends : (T O : RattleType) {t : Store T.Denot} {o : Order O.Denot} → MutBor (BitSliceMut T.Denot O.Denot t o) → GName → Fml
lends T O {t} {o} v name = follows (view_row T O t o) (Array T 0) v.ghost_name name (with_elements v.now)

-- The elements of `v` from `start` up to `end` were lent under this name, and `v` ends with what is left there and the others.
abbrev pub lends_part : (T O : RattleType) {t : Store T.Denot} {o : Order O.Denot} → MutBor (BitSliceMut T.Denot O.Denot t o) → ℕ → ℕ → GName → Fml
lends_part T O {t} {o} v start end name =
    follows (view_row T O t o) (Array T 0) v.ghost_name name (λ ws. with_elements v.now (with_range v.now.elements.now start end ws))

-- The elements that the bits of `v` from the index `from` up to `to` touch were lent under this name.
abbrev pub lends_bits : (T O : RattleType) {t : Store T.Denot} {o : Order O.Denot} → MutBor (BitSliceMut T.Denot O.Denot t o) → ℕ → ℕ → GName → Fml
lends_bits T O {t} {o} v from to name = lends_part T O v (first_touched t.BITS (v.now.head + from)) (end_touched t.BITS (v.now.head + to)) name
