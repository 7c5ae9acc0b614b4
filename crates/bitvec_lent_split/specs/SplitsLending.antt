-- What a split that lends ends as where a piece was lent.
use Rattle.std.specs.Prelude.{ℕ, ◌+◌, ◌*◌, ◌≤◌, List}
use Rattle.std.specs.Borrow.{Fml, GName, MutBor, RattleType, Array, follows}
use Rattle.std.proofs.Common.{subst}
use Rattle.bitvec_domain.specs.Refill.{refilled, length_refilled, of_lender, with_range}
use Rattle.bitvec_store.specs.declared.store.BitStore.{Ghosts as Store}
use Rattle.bitvec_base.specs.declared.order.BitOrder.{Ghosts as Order}
use Rattle.bitvec_base.specs.Window.{max_bits}
use Rattle.bitvec_slice.specs.Touched.{end_touched, first_touched}
use Rattle.bitvec_lent_split.specs.declared.lending.SplitsMut.{SplitsMut}
use Rattle.bitvec_lent_split.specs.contracts.lending.SplitsMut.{the_row}

module _ {T O P W L : Type 0} {t : Store T} {o : Order O} where
  -- the split as before, but for its elements, which are xs, cut or filled up to as many as before
  abbrev pub with_elements : SplitsMut T O P W L t o → List T → SplitsMut T O P W L t o
  with_elements s xs =
      record s {
        elements = refilled s.elements xs;
        inside = subst (λ (n : ℕ). s.head + s.len ≤ t.BITS * n) (length_refilled s.elements xs) s.inside;
        bounded = subst (λ (n : ℕ). t.BITS * n ≤ max_bits) (length_refilled s.elements xs) s.bounded;
      }

module _ (T O P W L : RattleType) {t : Store T.Denot} {o : Order O.Denot} where
  -- The elements from `start` up to `end` were lent under this name, and the split ends with what is left there and the others.
  abbrev pub lends_part : MutBor (SplitsMut T.Denot O.Denot P.Denot W.Denot L.Denot t o) → ℕ → ℕ → GName → Fml
  lends_part s start end name = follows (the_row of_lender T O P W L t o) (Array T 0) s.ghost_name name (λ ws. with_elements s.now (with_range s.now.elements.now start end ws))

  -- The elements that the bits from the index `from` up to `to` touch were lent under this name.
  abbrev pub lends_bits : MutBor (SplitsMut T.Denot O.Denot P.Denot W.Denot L.Denot t o) → ℕ → ℕ → GName → Fml
  lends_bits s from to name = lends_part s (first_touched t.BITS (s.now.head + from)) (end_touched t.BITS (s.now.head + to)) name

  -- The elements that the piece found last touches were lent under this name.
  abbrev pub lends_found : MutBor (SplitsMut T.Denot O.Denot P.Denot W.Denot L.Denot t o) → GName → Fml
  lends_found s name = lends_bits s s.now.found.start s.now.found.end name
