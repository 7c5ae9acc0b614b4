-- What a write into a window leaves there and elsewhere; writes one after the other, side by side, and into a part.
use Rattle.std.specs.Prelude.{◌≡◌, ℕ, ◌+◌, ◌-◌, ◌*◌, ◌≤◌, Bool, List, [], ◌∷◌, ◌++◌, drop, length, slice_range, slice_set, refl}
use Rattle.std.proofs.Common.{arith, sym, ◌∙◌, ap, subst, length-append}
use Rattle.bitvec_base.specs.declared.window.Window.{Window}
use Rattle.bitvec_base.specs.Window.{IsWithin, bit_window, window_after, window_of, window_range, write_at, write_window}
use Rattle.bitvec_base.specs.Memory.{memory_bits, list_in, HasWindow, Writes}
use Rattle.bitvec_base.specs.MemoryLaws.{within-bits}
use Rattle.bitvec_base.specs.SliceLaws.{range-join, range-to_end}
use Rattle.bitvec_base.specs.WriteLaws.{length-write_at, set-is_write, write_at-all, write_at-next, write_at-nil, range-write_at_after}
use Rattle.bitvec_base.specs.WindowLaws.{length-window, window-kept, window-written, window-rewritten, part-of_window, part-written}

-- ---- windows

-- a window of the memory is one of its bits
pub within-list : {b : ℕ} (at : ℕ → ℕ → ℕ) {xs : List ℕ} {window : Window} → HasWindow b xs window → IsWithin window (length (memory_bits b at xs))
within-list {b} at {xs} {window} has = within-bits b at xs window has.within

-- and holds as many bits as it says
pub length-list : {b : ℕ} (at : ℕ → ℕ → ℕ) {xs : List ℕ} {window : Window} → HasWindow b xs window → length (list_in b at xs window) ≡ window.len
length-list {b} at {xs} {window} has = length-window (memory_bits b at xs) window (within-list at has)

-- elements that are as many have the same windows
pub HasWindow-kept : {b : ℕ} {xs : List ℕ} (ys : List ℕ) {window : Window} → HasWindow b xs window → length ys ≡ length xs → HasWindow b ys window
HasWindow-kept {b} ys {window} has long =
    let product = ap (λ (n : ℕ). b * n) long in
    record {
      fits = let fits = has.fits in omega arith;
      within = subst (λ (n : ℕ). IsWithin window n) (sym product) has.within;
    }

pub HasWindow-range : {b : ℕ} {xs : List ℕ} {window : Window} (from to : ℕ) → HasWindow b xs window → from ≤ to → to ≤ window.len → HasWindow b xs (window_range window from to)
HasWindow-range from to has order bound =
    let start = has.within.start in
    let len = has.within.len in
    record { fits = has.fits; within = record { start = omega arith; len = omega arith } }

-- the bits of a part of a window
pub list-range : {b : ℕ} (at : ℕ → ℕ → ℕ) {xs : List ℕ} {window : Window} (from to : ℕ) → HasWindow b xs window → from ≤ to → to ≤ window.len → list_in b at xs (window_range window from to) ≡ slice_range (list_in b at xs window) from to
list-range {b} at {xs} {window} from to has order bound =
    let end : from + (to - from) ≡ to = omega arith in
    part-of_window (memory_bits b at xs) window (window_range window from to) from (within-list at has) (let e : window.start + from ≡ window.start + from = omega arith in e) (omega arith)
    ∙ ap (λ (e : ℕ). slice_range (list_in b at xs window) from e) end

-- the bits of a window without its first n ones
pub list-after : {b : ℕ} (at : ℕ → ℕ → ℕ) {xs : List ℕ} {window : Window} (n : ℕ) → HasWindow b xs window → n ≤ window.len → list_in b at xs (window_after n window) ≡ drop n (list_in b at xs window)
list-after {b} at {xs} {window} n has fits =
    let long = length-list at has in
    list-range at n window.len has fits (omega arith) ∙ range-to_end (list_in b at xs window) n window.len (omega arith)

-- the bits of two windows side by side
pub list-join : {b : ℕ} (at : ℕ → ℕ → ℕ) {xs : List ℕ} (first second : Window) {whole : Window} → HasWindow b xs whole → first.start ≡ whole.start → second.start ≡ first.start + first.len → whole.len ≡ first.len + second.len
    → list_in b at xs first ++ list_in b at xs second ≡ list_in b at xs whole
unfolding window_of
list-join {b} at {xs} first second {whole} has start next len =
    let within = within-list at has in
    let low = within.start in
    let high = within.len in
    let end : second.start + second.len ≡ whole.start + whole.len = omega arith in
    let middle : first.start + first.len ≡ second.start = sym next in
    rw (end, middle, start) (range-join (memory_bits b at xs) whole.start second.start (whole.start + whole.len) (omega arith) (omega arith) (omega arith))

-- ---- writes

-- the same write, where the list is told in another way
pub Writes-is : {b : ℕ} {at : ℕ → ℕ → ℕ} {old new : List ℕ} {window : Window} {list other : List Bool} → Writes b at old new window list → list ≡ other → Writes b at old new window other
Writes-is {b} {at} {old} {new} {window} writes same = subst (λ (l : List Bool). Writes b at old new window l) same writes

-- a bit was set in a window of one
pub Writes-one : {b : ℕ} {at : ℕ → ℕ → ℕ} {old new : List ℕ} (place : ℕ) (x : Bool) → HasWindow b old (bit_window place) → Writes b at old new (bit_window place) (slice_set (list_in b at old (bit_window place)) 0 x) → Writes b at old new (bit_window place) (x ∷ [])
Writes-one {b} {at} {old} {new} place x has wrote =
    let long = length-list at has in
    Writes-is wrote (set-is_write _ 0 x (omega arith) ∙ write_at-all _ (x ∷ []) (sym long))

-- nothing was written
pub Writes-nothing : {b : ℕ} (at : ℕ → ℕ → ℕ) {xs : List ℕ} (ys : List ℕ) {window : Window} → HasWindow b xs window → ys ≡ xs → Writes b at xs ys window (list_in b at xs window)
Writes-nothing {b} at {xs} ys {window} has same = record {
  bits = ap (memory_bits b at) same ∙ sym (window-kept (memory_bits b at xs) window (within-list at has));
  long = length-list at has;
  elements = ap length same;
}

pub Writes-empty : {b : ℕ} (at : ℕ → ℕ → ℕ) {xs : List ℕ} (ys : List ℕ) {window : Window} → HasWindow b xs window → window.len ≡ 0 → ys ≡ xs → Writes b at xs ys window []
Writes-empty {b} at {xs} ys {window} has none same =
    let within = within-list at has in
    record {
      bits = ap (memory_bits b at) same ∙ sym (write_at-nil (memory_bits b at xs) window.start within.start);
      long = sym none;
      elements = ap length same;
    }

-- what was written is what the window holds
pub Writes-holds : {b : ℕ} {at : ℕ → ℕ → ℕ} {old new : List ℕ} {window : Window} {list : List Bool} → HasWindow b old window → Writes b at old new window list → list_in b at new window ≡ list
Writes-holds {b} {at} {old} {new} {window} {list} has writes =
    ap (λ (l : List Bool). window_of l window) writes.bits ∙ window-written (memory_bits b at old) window list (within-list at has) writes.long

-- the second of two writes is what stays
pub Writes-then : {b : ℕ} {at : ℕ → ℕ → ℕ} {old mid new : List ℕ} {window : Window} {first second : List Bool} → HasWindow b old window → Writes b at old mid window first → Writes b at mid new window second → Writes b at old new window second
Writes-then {b} {at} {old} {mid} {new} {window} {first} {second} has before after = record {
  bits = after.bits
      ∙ ap (λ (l : List Bool). write_window l window second) before.bits
      ∙ window-rewritten (memory_bits b at old) window first second (within-list at has) before.long after.long;
  long = after.long;
  elements = after.elements ∙ before.elements;
}

-- a loop that writes into one window: at its start the window holds what it held
pub Writes-start : {b : ℕ} {at : ℕ → ℕ → ℕ} {xs : List ℕ} {window : Window} {list : List Bool} → HasWindow b xs window → list ≡ list_in b at xs window → Writes b at xs xs window list
Writes-start {b} {at} {xs} {window} {list} has same = Writes-is (Writes-nothing at xs has refl) (sym same)

-- it held `first`, and then holds what `step` makes of that
pub Writes-next : {b : ℕ} {at : ℕ → ℕ → ℕ} {old mid new : List ℕ} {window : Window} {first list : List Bool} (step : List Bool → List Bool) → HasWindow b old window → Writes b at old mid window first → Writes b at mid new window (step (list_in b at mid window)) → step first ≡ list → Writes b at old new window list
Writes-next {b} {at} {old} {mid} {new} {window} {first} {list} step has before after made =
    let held = Writes-holds has before in
    Writes-is {other = list} (Writes-then has before after) (ap step held ∙ made)

-- a write into a part of a window is one into the window
pub Writes-range : {b : ℕ} {at : ℕ → ℕ → ℕ} {old new : List ℕ} {window : Window} (from to : ℕ) {list : List Bool} → HasWindow b old window → from ≤ to → to ≤ window.len → Writes b at old new (window_range window from to) list
    → Writes b at old new window (write_at (list_in b at old window) from list)
Writes-range {b} {at} {old} {new} {window} from to {list} has order bound writes =
    let long = writes.long in
    let whole = length-list at has in
    record {
      bits = writes.bits ∙ part-written (memory_bits b at old) window (window_range window from to) from list (within-list at has) (let e : window.start + from ≡ window.start + from = omega arith in e) (omega arith);
      long = length-write_at (list_in b at old window) from list (omega arith) ∙ whole;
      elements = writes.elements;
    }

-- writes side by side
pub Writes-join : {b : ℕ} {at : ℕ → ℕ → ℕ} {old mid new : List ℕ} {first second whole : Window} {list other : List Bool} → HasWindow b old whole → first.start ≡ whole.start → second.start ≡ first.start + first.len → whole.len ≡ first.len + second.len
    → Writes b at old mid first list → Writes b at mid new second other → Writes b at old new whole (list ++ other)
Writes-join {b} {at} {old} {mid} {new} {first} {second} {whole} {list} {other} has start next len before after =
    let within = within-list at has in
    let low = within.start in
    let high = within.len in
    let list-long = before.long in
    let other-long = after.long in
    let place : second.start ≡ whole.start + length list = omega arith in
    record {
      bits = after.bits
          ∙ ap (λ (l : List Bool). write_at l second.start other) before.bits
          ∙ rw (place, start) (write_at-next (memory_bits b at old) whole.start list other (omega arith));
      long = omega (arith, length-append list other);
      elements = after.elements ∙ before.elements;
    }

-- what stands behind a written window stays
pub list-behind : {b : ℕ} {at : ℕ → ℕ → ℕ} {old new : List ℕ} {window behind : Window} {list : List Bool} → HasWindow b old window → HasWindow b old behind → window.start + window.len ≤ behind.start → Writes b at old new window list → list_in b at new behind ≡ list_in b at old behind
unfolding window_of
list-behind {b} {at} {old} {new} {window} {behind} {list} has other apart writes =
    let within = within-list at has in
    let low = within.start in
    let high = within.len in
    let next = within-list at other in
    let start = next.start in
    let len = next.len in
    let long = writes.long in
    rw writes.bits (range-write_at_after (memory_bits b at old) window.start list behind.start (behind.start + behind.len) (omega arith) (omega arith) (omega arith))
