-- What a writable walk over pieces ends as where a piece was lent.
use Rattle.std.specs.Prelude.{ℕ, ◌+◌, ◌-◌, ◌*◌, ◌≤◌, List, if◌then◌else◌, min, nat_lt, true}
use Rattle.std.specs.Borrow.{Fml, GName, MutBor, RattleType, Array, follows}
use Rattle.std.specs.declared.ops.Range.{Range}
use Rattle.std.proofs.Common.{arith, subst}
use Rattle.bitvec_domain.specs.Refill.{refilled, length_refilled, of_lender, with_range}
use Rattle.bitvec_store.specs.declared.store.BitStore.{Ghosts as Store}
use Rattle.bitvec_base.specs.declared.order.BitOrder.{Ghosts as Order}
use Rattle.bitvec_base.specs.Window.{max_bits}
use Rattle.bitvec_cutting.specs.declared.cutting.Cutting.{Ghosts as Cuts}
use Rattle.bitvec_slice.specs.Touched.{end_touched, first_touched}
use Rattle.bitvec_iter.specs.LentPieces.{walk_of}
use Rattle.bitvec_iter.specs.LentWalk.{rest_of}
use Rattle.bitvec_iter.specs.declared.lent_pieces.PiecesMut.{PiecesMut}
use Rattle.bitvec_iter.specs.contracts.lent_pieces.PiecesMut.{the_row}

module _ {T O C : Type 0} {t : Store T} {o : Order O} {c : Cuts C} where
  -- the walk as before, but for its elements, which are xs, cut or filled up to as many as before
  abbrev pub with_elements : PiecesMut T O C t o c → List T → PiecesMut T O C t o c
  with_elements p xs =
      record p {
        elements = refilled p.elements xs;
        inside = subst (λ (n : ℕ). p.head + p.len ≤ t.BITS * n) (length_refilled p.elements xs) p.inside;
        bounded = subst (λ (n : ℕ). t.BITS * n ≤ max_bits) (length_refilled p.elements xs) p.bounded;
      }

  -- The walk without its first piece.
  abbrev pub without_first : PiecesMut T O C t o c → PiecesMut T O C t o c
  without_first p = record p { front = p.front + 1 }

  -- The walk without its last piece.
  abbrev pub without_last : PiecesMut T O C t o c → PiecesMut T O C t o c
  without_last p = record p { back = p.back - 1; numbered = omega (arith, p.numbered) }

  -- The walk without its first `count` pieces, or without all where it has fewer.
  abbrev pub passed : PiecesMut T O C t o c → ℕ → PiecesMut T O C t o c
  passed p count = record p { front = p.front + min count (p.back - p.front) }

  -- The walk without its last `count` pieces, or without all where it has fewer.
  abbrev pub passed_back : PiecesMut T O C t o c → ℕ → PiecesMut T O C t o c
  passed_back p count = record p { back = p.back - min count (p.back - p.front); numbered = omega (arith, p.numbered) }

  -- The walk after the bits that no piece has were taken.
  abbrev pub without_rest : PiecesMut T O C t o c → PiecesMut T O C t o c
  without_rest p = record p { taken = true }

  -- The walk without its first piece, with `ws` in the elements that this piece touches, or as it was where no piece is left.
  abbrev pub ends_next : (C → ℕ → ℕ → Range ℕ) → PiecesMut T O C t o c → List T → PiecesMut T O C t o c
  ends_next place from ws =
      let range = place from.cutting from.len from.front in
      let start = first_touched t.BITS (from.head + range.start) in
      let end = end_touched t.BITS (from.head + range.end) in
      if nat_lt from.front from.back then with_elements (without_first from) (with_range from.elements.now start end ws) else with_elements from from.elements.now

  -- The walk without its last piece, with `ws` in the elements that this piece touches, or as it was where no piece is left.
  abbrev pub ends_next_back : (C → ℕ → ℕ → Range ℕ) → PiecesMut T O C t o c → List T → PiecesMut T O C t o c
  ends_next_back place from ws =
      let range = place from.cutting from.len (from.back - 1) in
      let start = first_touched t.BITS (from.head + range.start) in
      let end = end_touched t.BITS (from.head + range.end) in
      if nat_lt from.front from.back then with_elements (without_last from) (with_range from.elements.now start end ws) else with_elements from from.elements.now

-- The elements from `start` up to `end` were lent under this name, and the walk ends with what is left there and the others.
abbrev pub lends_part : (T O C : RattleType) {t : Store T.Denot} {o : Order O.Denot} {c : Cuts C.Denot} → MutBor (PiecesMut T.Denot O.Denot C.Denot t o c) → ℕ → ℕ → GName → Fml
lends_part T O C {t} {o} {c} p start end name =
    follows (the_row of_lender T O C t o c) (Array T 0) p.ghost_name name (λ ws. with_elements p.now (with_range p.now.elements.now start end ws))

-- The elements that the bits from the index `from` up to `to` touch were lent under this name.
abbrev pub lends_bits : (T O C : RattleType) {t : Store T.Denot} {o : Order O.Denot} {c : Cuts C.Denot} → MutBor (PiecesMut T.Denot O.Denot C.Denot t o c) → ℕ → ℕ → GName → Fml
lends_bits T O C {t} {o} {c} p from to name = lends_part T O C p (first_touched t.BITS (p.now.head + from)) (end_touched t.BITS (p.now.head + to)) name

-- The elements that the range's bits touch were lent under this name, and the walk ends as `next` with what is left there.
abbrev pub lends_range : (T O C : RattleType) {t : Store T.Denot} {o : Order O.Denot} {c : Cuts C.Denot} → MutBor (PiecesMut T.Denot O.Denot C.Denot t o c)
    → PiecesMut T.Denot O.Denot C.Denot t o c → Range ℕ → GName → Fml
lends_range T O C {t} {o} {c} p next range name =
    let start = first_touched t.BITS (p.now.head + range.start) in
    let end = end_touched t.BITS (p.now.head + range.end) in
    follows (the_row of_lender T O C t o c) (Array T 0) p.ghost_name name (λ ws. with_elements next (with_range p.now.elements.now start end ws))

module _ (T O C : RattleType) {t : Store T.Denot} {o : Order O.Denot} {c : Cuts C.Denot} where
  -- The elements of the first piece left were lent under this name, and the walk ends without that piece.
  abbrev pub lends_first : (C.Denot → ℕ → ℕ → Range ℕ) → MutBor (PiecesMut T.Denot O.Denot C.Denot t o c) → GName → Fml
  lends_first place p name = lends_range T O C p (without_first p.now) (place p.now.cutting p.now.len p.now.front) name

  -- The elements of the last piece left were lent under this name, and the walk ends without that piece.
  abbrev pub lends_last : (C.Denot → ℕ → ℕ → Range ℕ) → MutBor (PiecesMut T.Denot O.Denot C.Denot t o c) → GName → Fml
  lends_last place p name = lends_range T O C p (without_last p.now) (place p.now.cutting p.now.len (p.now.back - 1)) name

  -- The elements of the bits that no piece has were lent under this name, and the walk ends without these bits.
  abbrev pub lends_rest : (C.Denot → ℕ → Range ℕ) → MutBor (PiecesMut T.Denot O.Denot C.Denot t o c) → GName → Fml
  lends_rest left_over p name = lends_range T O C p (without_rest p.now) (rest_of left_over (walk_of p.now)) name

  -- The elements of the first piece left were lent and the walk ends without it; where no piece is left, it ends as it was.
  abbrev pub lends_next : (C.Denot → ℕ → ℕ → Range ℕ) → MutBor (PiecesMut T.Denot O.Denot C.Denot t o c) → PiecesMut T.Denot O.Denot C.Denot t o c → GName → Fml
  lends_next place p from name = follows (the_row of_lender T O C t o c) (Array T 0) p.ghost_name name (ends_next place from)

  -- The elements of the last piece left were lent and the walk ends without it; where no piece is left, it ends as it was.
  abbrev pub lends_next_back : (C.Denot → ℕ → ℕ → Range ℕ) → MutBor (PiecesMut T.Denot O.Denot C.Denot t o c) → PiecesMut T.Denot O.Denot C.Denot t o c → GName → Fml
  lends_next_back place p from name = follows (the_row of_lender T O C t o c) (Array T 0) p.ghost_name name (ends_next_back place from)
