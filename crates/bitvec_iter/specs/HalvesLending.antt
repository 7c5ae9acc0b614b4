-- What two halves of a view end as where one was lent.
use Rattle.std.specs.Prelude.{ℕ, ◌+◌, ◌*◌, ◌≤◌, List}
use Rattle.std.specs.Borrow.{Fml, GName, MutBor, RattleType, Array, follows}
use Rattle.std.proofs.Common.{subst}
use Rattle.bitvec_domain.specs.Refill.{refilled, length_refilled, of_lender, with_range}
use Rattle.bitvec_store.specs.declared.store.BitStore.{Ghosts as Store}
use Rattle.bitvec_base.specs.declared.order.BitOrder.{Ghosts as Order}
use Rattle.bitvec_base.specs.Window.{max_bits}
use Rattle.bitvec_slice.specs.Touched.{end_touched, first_touched}
use Rattle.bitvec_iter.specs.declared.lent_halves.HalvesMut.{HalvesMut}
use Rattle.bitvec_iter.specs.contracts.lent_halves.HalvesMut.{the_row}

module _ {T O : Type 0} {t : Store T} {o : Order O} where
  -- the halves as before, but for their elements, which are xs, cut or filled up to as many as before
  abbrev pub with_elements : HalvesMut T O t o → List T → HalvesMut T O t o
  with_elements h xs =
      record h {
        elements = refilled h.elements xs;
        inside = subst (λ (n : ℕ). h.head + h.len ≤ t.BITS * n) (length_refilled h.elements xs) h.inside;
        bounded = subst (λ (n : ℕ). t.BITS * n ≤ max_bits) (length_refilled h.elements xs) h.bounded;
      }

-- The elements from `start` up to `end` were lent under this name, and the halves end with what is left there and the others.
abbrev pub lends_part : (T O : RattleType) {t : Store T.Denot} {o : Order O.Denot} → MutBor (HalvesMut T.Denot O.Denot t o) → ℕ → ℕ → GName → Fml
lends_part T O {t} {o} h start end name =
    follows (the_row of_lender T O t o) (Array T 0) h.ghost_name name (λ ws. with_elements h.now (with_range h.now.elements.now start end ws))

-- The elements that the bits from the index `from` up to `to` touch were lent under this name.
abbrev pub lends_bits : (T O : RattleType) {t : Store T.Denot} {o : Order O.Denot} → MutBor (HalvesMut T.Denot O.Denot t o) → ℕ → ℕ → GName → Fml
lends_bits T O {t} {o} h from to name = lends_part T O h (first_touched t.BITS (h.now.head + from)) (end_touched t.BITS (h.now.head + to)) name
