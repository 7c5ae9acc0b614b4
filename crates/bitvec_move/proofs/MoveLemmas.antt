-- What proofs of copies, moves and exchanges need of windows and costs, said by plain numbers.
use Rattle.std.proofs.Common.{◌≡◌, ℕ, ◌+◌, ◌*◌, ◌/◌, ◌<◌, ◌≤◌, true, List, length, arith}
use Rattle.std.proofs.lemmas.Nat.{div_below}
use Rattle.bitvec_base.specs.declared.window.Window.{Window}
use Rattle.bitvec_base.specs.Memory.{HasWindow}
use Rattle.bitvec_base.specs.Spans.{HasSpan}
use Rattle.bitvec_base.specs.Window.{window_after}
use Rattle.bitvec_base.specs.WritesLaws.{HasWindow-kept}
use Rattle.bitvec_store.specs.Width.{IsWidth}
use Rattle.bitvec_store.specs.WidthLaws.{width_some}
use Rattle.bitvec_cells.specs.Cost.{read_loads, touched_count, write_stores}
use Rattle.bitvec_cells.specs.CostLaws.{touched_read, touched_stored}
use Rattle.bitvec_words.specs.WholeLaws.{HasWindow-part}
use Rattle.bitvec_words.specs.Moves.{Copies, SwapsWindows}

-- ---- numbers

-- the element of a place in a window, where the memory may have changed
pub place-element : {b : ℕ} {xs : List ℕ} (ys : List ℕ) {window : Window} (e : ℕ) → IsWidth b → HasWindow b xs window → e < window.start + window.len → length ys ≡ length xs → e / b < length ys
place-element {b} {xs} ys e width has below kept =
    let all : e < length xs * b = omega arith in
    rw kept (div_below e b (length xs) (width_some b width) all)

-- the elements that n bits touch are some of the loads and stores of as many bits
pub touched-read : (b s : ℕ) {n m : ℕ} → 0 < b → m ≡ n → touched_count b s n ≤ read_loads b true m
touched-read b s {n} some same = rw same (touched_read b true s n some)

pub touched-stored : (b s n m : ℕ) → 0 < b → m ≡ n → touched_count b s n ≤ write_stores b true m
touched-stored b s n m some same = rw same (touched_stored b true s n some)

-- ---- the same windows, told in another way

pub Copies-same : (b : ℕ) (at : ℕ → ℕ → ℕ) (old new other : List ℕ) (part source to from : Window)
    → to.start ≡ part.start → to.len ≡ part.len → from.start ≡ source.start → from.len ≡ source.len
    → Copies b at old new part other source → Copies b at old new to other from
Copies-same b at old new other part source to from start len source_start source_len copies = rw (start, len, source_start, source_len) copies

pub SwapsWindows-same : (b : ℕ) {at : ℕ → ℕ → ℕ} {xs new_xs ys new_ys : List ℕ} {part source : Window} (left right : Window)
    → left.start ≡ part.start → left.len ≡ part.len → right.start ≡ source.start → right.len ≡ source.len
    → SwapsWindows b at xs new_xs ys new_ys part source → SwapsWindows b at xs new_xs ys new_ys left right
SwapsWindows-same b {at} {xs} {new_xs} {ys} {new_ys} {part} {source} left right start len source_start source_len swaps = record {
  writes = Copies-same b at xs new_xs ys part source left right start len source_start source_len swaps.writes;
  right_writes = Copies-same b at ys new_ys xs source part right left source_start source_len start len swaps.right_writes;
}

-- ---- what is behind t bits, where the memories may have changed

pub after-span : {b : ℕ} {xs now ys others : List ℕ} {left right : Window} (t : ℕ) → HasSpan b xs ys left right → length now ≡ length xs → length others ≡ length ys
    → t ≤ left.len → HasSpan b now others (window_after t left) (window_after t right)
after-span {b} {xs} {now} {ys} {others} {left} {right} t has kept right_kept fits =
    record {
      window = HasWindow-part (window_after t left) (HasWindow-kept now has.window kept) (omega arith) (omega arith);
      beside = HasWindow-part (window_after t right) (HasWindow-kept others has.beside right_kept) (omega arith) (omega arith);
      lengths = omega arith;
    }
