-- Windows of a list of bits: what is read, written and left.
use Rattle.std.specs.Prelude.{◌≡◌, ℕ, ◌+◌, ◌<◌, ◌≤◌, List, [], ◌∷◌, ◌++◌, length, slice_index_or, slice_range, slice_set}
use Rattle.std.specs.List.{swap}
use Rattle.std.proofs.Common.{arith, sym, ◌∙◌, ap}
use Rattle.std.proofs.Math.ListN.{get_or-eq_default}
use Rattle.std.proofs.lemmas.List.{length-set}
use Rattle.std.proofs.lemmas.List.Edits.{swap_is}
use Rattle.bitvec_base.specs.declared.window.Window.{Window}
use Rattle.bitvec_base.specs.Window.{IsWithin, bit_window, window_of, write_at, write_window}
use Rattle.bitvec_base.specs.WriteLaws.{length-slice_range, get-slice_range, get-write_at_above, length-write_at, set-is_write, write_at-next, write_at-same, write_at-inside, write_at-over, range-range, range-write_at}

-- Value `i` of a window's list is the one at place `window.start + i`.
pub get-window : {X : Type 0} (bits : List X) (window : Window) (i : ℕ) (d : X) → i < window.len → slice_index_or (window_of bits window) i d ≡ slice_index_or bits (window.start + i) d
unfolding window_of
get-window bits window i d inside = get-slice_range bits window.start (window.start + window.len) i d (omega arith)

-- The value in the list of a window of one place is the one at that place.
pub get-one : {X : Type 0} (bits : List X) (place : ℕ) (d : X) → slice_index_or (window_of bits (bit_window place)) 0 d ≡ slice_index_or bits place d
get-one bits place d = get-window bits (bit_window place) 0 d (omega arith) ∙ ap (λ (k : ℕ). slice_index_or bits k d) (omega arith)

-- The list of a window that lies within the bits is as long as the window.
pub length-window : {X : Type 0} (bits : List X) (window : Window) → IsWithin window (length bits) → length (window_of bits window) ≡ window.len
unfolding window_of
length-window bits window within =
    let start = within.start in
    let len = within.len in
    let long = length-slice_range bits window.start (window.start + window.len) (omega arith) in
    omega arith

-- The laws of what stands in a window or a slice, for `using`.
pub ruleset reading = (get-window, get-slice_range)

-- Writing the list that a window holds back into it changes nothing.
pub window-kept : {X : Type 0} (bits : List X) (window : Window) → IsWithin window (length bits) → write_window bits window (window_of bits window) ≡ bits
unfolding window_of
window-kept bits window within =
    let start = within.start in
    let len = within.len in
    write_at-same bits window.start (window.start + window.len) (omega arith) (omega arith)

-- A window holds the list that was written into it.
pub window-written : {X : Type 0} (bits : List X) (window : Window) (new : List X) → IsWithin window (length bits) → length new ≡ window.len → window_of (write_window bits window new) window ≡ new
unfolding window_of
window-written bits window new within long =
    let start = within.start in
    let len = within.len in
    ap (λ (n : ℕ). slice_range (write_at bits window.start new) window.start (window.start + n)) (sym long)
    ∙ range-write_at bits window.start new (omega arith)

-- Of two lists that are written into a window, one after the other, only the second stays.
pub window-rewritten : {X : Type 0} (bits : List X) (window : Window) (old new : List X) → IsWithin window (length bits) → length old ≡ window.len → length new ≡ window.len → write_window (write_window bits window old) window new ≡ write_window bits window new
window-rewritten bits window old new within old-long new-long =
    let start = within.start in
    let len = within.len in
    write_at-over bits window.start old new (omega arith) (omega arith)

-- The list of a part of a window is a range of the window's list.
pub part-of_window : {X : Type 0} (bits : List X) (window part : Window) (from : ℕ) → IsWithin window (length bits) → part.start ≡ window.start + from → from + part.len ≤ window.len → window_of bits part ≡ slice_range (window_of bits window) from (from + part.len)
unfolding window_of
part-of_window bits window part from within place fits =
    let start = within.start in
    let len = within.len in
    let end : window.start + from + part.len ≡ window.start + (from + part.len) = omega arith in
    rw (place, end) (sym (range-range bits window.start (window.start + window.len) from (from + part.len) (omega arith) (omega arith)))

-- A write into a part of a window is a write of the window's list with that part replaced.
pub part-written : {X : Type 0} (bits : List X) (window part : Window) (from : ℕ) (new : List X) → IsWithin window (length bits) → part.start ≡ window.start + from → from + length new ≤ window.len → write_window bits part new ≡ write_window bits window (write_at (window_of bits window) from new)
unfolding window_of
part-written bits window part from new within place fits =
    let start = within.start in
    let len = within.len in
    rw place (sym (write_at-inside bits window.start (window.start + window.len) from new (omega arith) (omega arith)))

-- A write of one value at a window's index `i` is a write of the window's list with that value set.
pub window-set : {X : Type 0} (bits : List X) (window : Window) (i : ℕ) (x : X) → IsWithin window (length bits) → i < window.len → write_at bits (window.start + i) (x ∷ []) ≡ write_window bits window (slice_set (window_of bits window) i x)
unfolding window_of
window-set {X} bits window i x within h =
    let start = within.start in
    let len = within.len in
    let long = length-slice_range bits window.start (window.start + window.len) (omega arith) in
    sym (ap (λ (l : List X). write_at bits window.start l) (set-is_write (window_of bits window) i x (omega arith))
    ∙ write_at-inside bits window.start (window.start + window.len) i (x ∷ []) (omega arith) (omega arith))

-- An index past the end of a window's list gives the default value.
pub window-past : {X : Type 0} (bits : List X) (window : Window) (i : ℕ) (d : X) → IsWithin window (length bits) → window.len ≤ i → slice_index_or (window_of bits window) i d ≡ d
window-past bits window i d within h =
    let long = length-window bits window within in
    get_or-eq_default (window_of bits window) d (omega arith)

-- Writing the value of index `j` at `i`, and then the old value of `i` at `j`, is an exchange of the two.
pub swap-writes : {X : Type 0} (bits : List X) (window : Window) (i j : ℕ) (d : X) → IsWithin window (length bits) → i < window.len → j < window.len
    → write_window (write_window bits window (slice_set (window_of bits window) i (slice_index_or (window_of bits window) j d))) window
    (slice_set (window_of (write_window bits window (slice_set (window_of bits window) i (slice_index_or (window_of bits window) j d))) window) j (slice_index_or (window_of bits window) i d))
    ≡ write_window bits window (swap (window_of bits window) i j)
swap-writes {X} bits window i j d within first second =
    let list = window_of bits window in
    let once = slice_set list i (slice_index_or list j d) in
    let long = length-window bits window within in
    let kept = length-set list i (slice_index_or list j d) in
    let twice = length-set once j (slice_index_or list i d) in
    ap (λ (l : List X). write_window (write_window bits window once) window (slice_set l j (slice_index_or list i d)))
    (window-written bits window once within (omega arith))
    ∙ window-rewritten bits window once (slice_set once j (slice_index_or list i d)) within (omega arith) (omega arith)
    ∙ ap (write_window bits window) (swap_is list i j d (omega arith) (omega arith))

-- ---- a window written from its first place on

-- After `new` is written into a window's first places, setting the value behind it is writing one value more.
pub window-push : {X : Type 0} (before : List X) {window : Window} (new : List X) {i : ℕ} (x : X) → IsWithin window (length before) → length new ≡ i → i < window.len
    → write_window (write_window before window new) window (slice_set (window_of (write_window before window new) window) i x) ≡ write_window before window (new ++ (x ∷ []))
window-push before {window} new {i} x within long h =
    let start = within.start in
    let len = within.len in
    let now = write_window before window new in
    let kept = length-write_at before window.start new (omega arith) in
    let lies : IsWithin window (length now) = record { start = omega arith; len = omega arith } in
    sym (window-set now window i x lies h)
    ∙ ap (λ (n : ℕ). write_at now (window.start + n) (x ∷ [])) (sym long)
    ∙ write_at-next before window.start new (x ∷ []) (omega arith)

-- The values of a window behind those that were written are as before.
pub window-rest : {X : Type 0} (before : List X) (window : Window) (new : List X) (i : ℕ) (d : X) → IsWithin window (length before) → length new ≤ i → i < window.len
    → slice_index_or (window_of (write_window before window new) window) i d ≡ slice_index_or (window_of before window) i d
window-rest before window new i d within long h =
    let start = within.start in
    let len = within.len in
    get-window (write_window before window new) window i d h
    ∙ get-write_at_above before window.start new (window.start + i) d (omega arith) (omega arith)
    ∙ sym (get-window before window i d h)
