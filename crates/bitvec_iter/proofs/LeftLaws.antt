-- The first and the last of the pieces that are still to come, and how many they are.
use Rattle.std.specs.Prelude.{◌≡◌, ℕ, ◌+◌, ◌-◌, ◌<◌, ◌≤◌, [], ◌∷◌, ◌++◌, length, refl}
use Rattle.std.specs.declared.ops.Range.{Range}
use Rattle.std.proofs.Common.{◌∙◌, ap, arith}
use Rattle.std.proofs.iter.runs.Sources.{from_back, from_front}
use Rattle.bitvec_store.specs.declared.store.BitStore.{Ghosts as Store}
use Rattle.bitvec_base.specs.declared.order.BitOrder.{Ghosts as Order}
use Rattle.bitvec_base.specs.Window.{max_bits}
use Rattle.bitvec_cutting.specs.WalkLaws.{walk_first, walk_last, walk_length, walk_none}
use Rattle.bitvec_cutting.specs.Walks.{walk}
use Rattle.bitvec_cutting.specs.declared.cutting.Cutting.{Ghosts as Cutting}
use Rattle.bitvec_slice.specs.Seen.{Seen}
use Rattle.bitvec_slice.specs.Views.{seen}
use Rattle.bitvec_iter.specs.Parts.{parts_of}
use Rattle.bitvec_iter.specs.Left.{KeepsView, TakesFirst, TakesLast, YieldsPieces, piece_at, pieces_left}
use Rattle.bitvec_iter.specs.declared.pieces.Pieces.{Pieces}

module _ {T O C : Type 0} {t : Store T} {o : Order O} {c : Cutting C} (it : Pieces T O C t o c) where
  pub left : pieces_left it ≡ walk (piece_at it) it.numbers.start it.numbers.end
  unfolding pieces_left
  left = refl

  pub left_none : it.numbers.end ≤ it.numbers.start → pieces_left it ≡ []
  unfolding pieces_left
  left_none none = walk_none (piece_at it) it.numbers.start it.numbers.end none

  pub left_first : it.numbers.start < it.numbers.end → pieces_left it ≡ piece_at it it.numbers.start ∷ walk (piece_at it) (it.numbers.start + 1) it.numbers.end
  unfolding pieces_left
  left_first some = walk_first (piece_at it) it.numbers.start it.numbers.end some

  pub left_last : it.numbers.start < it.numbers.end → pieces_left it ≡ walk (piece_at it) it.numbers.start (it.numbers.end - 1) ++ piece_at it (it.numbers.end - 1) ∷ []
  unfolding pieces_left
  left_last some = walk_last (piece_at it) it.numbers.start it.numbers.end some

  pub left_length : length (pieces_left it) ≡ it.numbers.end - it.numbers.start
  unfolding pieces_left
  left_length = walk_length (piece_at it) it.numbers.start it.numbers.end

  pub left_all : it.numbers.start ≡ 0 → it.numbers.end ≡ c.pieces it.cutting (seen it.view).window.len → pieces_left it ≡ parts_of t.BITS (seen it.view) (c.pieces it.cutting) (c.place it.cutting)
  unfolding pieces_left
  left_all start end = ap (λ (s : ℕ). walk (piece_at it) s it.numbers.end) start ∙ ap (λ (e : ℕ). walk (piece_at it) 0 e) end

  pub few_left : (count len : ℕ) → it.numbers.end ≡ count → count ≤ len → len ≤ max_bits → length (pieces_left it) ≤ max_bits
  few_left count len is few most = let long = left_length in omega arith

  -- the walk with other numbers
  module _ (numbers : Range ℕ) (inside : numbers.end ≤ c.pieces it.cutting (seen it.view).window.len) where
    abbrev pub at : Pieces T O C t o c
    at = record it { numbers = numbers; inside = inside }

    pub took_first : (number : ℕ) (piece : Seen T) → 0 < it.numbers.end - it.numbers.start → number ≡ it.numbers.start → numbers.start ≡ it.numbers.start + 1 → numbers.end ≡ it.numbers.end → piece ≡ piece_at it number → (pieces_left it ≡ piece ∷ pieces_left at) × KeepsView it at
    unfolding pieces_left
    took_first number piece some is next end shown = (simp (shown, is, next, end) (left_first (omega arith)), record { view = refl; cutting = refl })

    pub took_last : (number : ℕ) (piece : Seen T) → 0 < it.numbers.end - it.numbers.start → number ≡ numbers.end → it.numbers.end ≡ numbers.end + 1 → numbers.start ≡ it.numbers.start → piece ≡ piece_at it number → (pieces_left it ≡ pieces_left at ++ piece ∷ []) × KeepsView it at
    unfolding pieces_left
    took_last number piece some is next start shown =
        let last : it.numbers.end - 1 ≡ numbers.end = omega arith in
        (left_last (omega arith) ∙ simp (shown, is, last, start), record { view = refl; cutting = refl })

    pub took_none : it.numbers.end - it.numbers.start ≡ 0 → numbers.start ≡ it.numbers.start → numbers.end ≡ it.numbers.end → ((pieces_left it ≡ []) × (pieces_left at ≡ [])) × KeepsView it at
    unfolding pieces_left
    took_none none start end = ((left_none (omega arith), walk_none (piece_at it) numbers.start numbers.end (omega arith)), record { view = refl; cutting = refl })

    pub fewer : numbers.end - numbers.start + 1 ≡ it.numbers.end - it.numbers.start → length (pieces_left at) < length (pieces_left it)
    unfolding pieces_left
    fewer less = let before = walk_length (piece_at it) it.numbers.start it.numbers.end in let after = walk_length (piece_at it) numbers.start numbers.end in omega arith

-- what a walk's steps are, for `using`
pub ruleset stepping = (left, left_none, left_first, left_last, left_length)

module _ {T O C : Type 0} {t : Store T} {o : Order O} {c : Cutting C} where
  pub pieces_yielded : (it : Pieces T O C t o c) → YieldsPieces it
  pieces_yielded it = record {
    front = from_front TakesFirst seen pieces_left (λ s r h. ap length h.0.0) (λ s x r h. h.0);
    back = from_back TakesLast seen pieces_left (λ s r h. ap length h.0.0) (λ s x r h. h.0);
  }
