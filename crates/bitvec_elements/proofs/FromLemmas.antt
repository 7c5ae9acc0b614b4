-- A word that has 64 bits of a window.
use Rattle.std.specs.Prelude.{◌≡◌, ℕ, ◌+◌, ◌<◌, ◌≤◌, min, Bool, false, List, slice_index_or, slice_range}
use Rattle.std.proofs.Common.{arith, sym, ◌∙◌, ap, ⊎_elim}
use Rattle.std.proofs.lemmas.Bool.{cases_lt}
use Rattle.bitvec_base.specs.declared.window.Window.{Window}
use Rattle.bitvec_base.specs.Memory.{HasWindow, element_bits, list_in, memory_bits}
use Rattle.bitvec_base.specs.Window.{window_range}
use Rattle.bitvec_base.specs.WindowLaws.{window-past}
use Rattle.bitvec_base.specs.WriteLaws.{get-slice_range, length-slice_range}
use Rattle.bitvec_base.specs.WritesLaws.{length-list, list-range, within-list}
use Rattle.bitvec_words.specs.ShortWindow.{padded}
use Rattle.bitvec_elements.specs.BitsFrom.{HasBitsFrom}
use Rattle.bitvec_elements.proofs.DifferenceLemmas.{in_padded, past_padded}

-- 64 bits of a window's list, or as many as are left
pub bits-from : (b : ℕ) (at way : ℕ → ℕ → ℕ) (xs : List ℕ) (window : Window) (has : HasWindow b xs window) (word from : ℕ) {start end : ℕ} → start ≡ min from window.len → end ≡ min (from + 64) window.len
    → element_bits 64 way word ≡ padded 64 (list_in b at xs (window_range window start end)) → HasBitsFrom way word (list_in b at xs window) from
bits-from b at way xs window has word from {start} {end} begins ends held k below =
    let list = list_in b at xs window in
    let long = length-list at has in
    let part = length-slice_range list start end (omega arith) in
    let bit = ap (λ (l : List Bool). slice_index_or l k false) (held ∙ ap (padded 64) (list-range at start end has (omega arith) (omega arith))) in
    ⊎_elim (λ (inside : from + k < window.len).
    let place : start + k ≡ from + k = omega arith in
    bit ∙ in_padded 64 (slice_range list start end) k (omega arith) ∙ get-slice_range list start end k false (omega arith) ∙ ap (λ (n : ℕ). slice_index_or list n false) place)
    (λ (behind : window.len ≤ from + k).
    bit ∙ past_padded 64 (slice_range list start end) k (omega arith) below ∙ sym (window-past (memory_bits b at xs) window (from + k) false (within-list at has) behind))
    (cases_lt (from + k) window.len)
