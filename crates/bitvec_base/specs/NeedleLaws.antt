-- A list that begins, ends or stands in a window's list, by the parts of the window.
use Rattle.std.specs.Prelude.{◌≡◌, ℕ, ◌+◌, ◌-◌, ◌<◌, ◌≤◌, Bool, true, false, List, length, drop, slice_range}
use Rattle.std.proofs.Common.{arith, sym, ◌∙◌, ap, ⊎_elim}
use Rattle.std.proofs.lemmas.Bool.{cases_lt}
use Rattle.bitvec_base.specs.declared.window.Window.{Window}
use Rattle.bitvec_base.specs.Lists.{same_bits, is_prefix, is_suffix, stands_at, stands_in}
use Rattle.bitvec_base.specs.ListsLaws.{is_prefix-fits, is_prefix-long, is_suffix-fits, is_suffix-long, stands_at-fits, stands_at-long, stands_in-none}
use Rattle.bitvec_base.specs.SliceLaws.{range-from_start, range-to_end}
use Rattle.bitvec_base.specs.Window.{IsWithin, window_of}
use Rattle.bitvec_base.specs.WindowLaws.{length-window, part-of_window}

-- A part that a list begins with is no longer than the list.
pub is_prefix-no_longer : (part list : List Bool) → is_prefix part list ≡ true → length part ≤ length list
is_prefix-no_longer part list begins =
    ⊎_elim (λ long. let none = is_prefix-long part list long in cc) (λ fits. fits) (cases_lt (length list) (length part))

-- A part that a list ends with is no longer than the list.
pub is_suffix-no_longer : (part list : List Bool) → is_suffix part list ≡ true → length part ≤ length list
is_suffix-no_longer part list ends =
    ⊎_elim (λ long. let none = is_suffix-long part list long in cc) (λ fits. fits) (cases_lt (length list) (length part))

pub prefix-part : (bits other : List Bool) (window part : Window) → IsWithin window (length bits) → length other ≡ part.len → part.start ≡ window.start → part.len ≤ window.len → same_bits (window_of bits part) other ≡ is_prefix other (window_of bits window)
prefix-part bits other window part within long place fits =
    let whole = length-window bits window within in
    let list = window_of bits window in
    ap (λ l. same_bits l other) (part-of_window bits window part 0 within (omega arith) (omega arith) ∙ range-from_start list (length other) (0 + part.len) (omega arith))
    ∙ sym (is_prefix-fits other list (omega arith))

pub suffix-part : (bits other : List Bool) (window part : Window) → IsWithin window (length bits) → length other ≡ part.len → part.start ≡ window.start + (window.len - part.len) → part.len ≤ window.len → same_bits (window_of bits part) other ≡ is_suffix other (window_of bits window)
suffix-part bits other window part within long place fits =
    let whole = length-window bits window within in
    let list = window_of bits window in
    let from : part.start ≡ window.start + (length (window_of bits window) - part.len) = omega arith in
    ap (λ l. same_bits l other) (part-of_window bits window part (length (window_of bits window) - part.len) within from (omega arith) ∙ range-to_end list (length list - part.len) (length list - part.len + part.len) (omega arith) ∙ ap (λ n. drop (length list - n) list) (sym long))
    ∙ sym (is_suffix-fits other list (omega arith))

pub stands-part : (bits other : List Bool) (window part : Window) (from : ℕ) → IsWithin window (length bits) → length other ≡ part.len → part.start ≡ window.start + from → from + part.len ≤ window.len → same_bits (window_of bits part) other ≡ stands_at other (window_of bits window) from
stands-part bits other window part from within long place fits =
    let whole = length-window bits window within in
    let list = window_of bits window in
    ap (λ l. same_bits l other) (part-of_window bits window part from within place fits ∙ ap (λ n. slice_range list from (from + n)) (sym long))
    ∙ sym (stands_at-fits other list from (omega arith))

-- the list stands nowhere: not below n, and from there on there is no room
pub stands-nowhere : (part list : List Bool) (n : ℕ) → length list < n + length part → ((k : ℕ) → k < n → stands_at part list k ≡ false) → false ≡ stands_in part list
stands-nowhere part list n room absent =
    sym (stands_in-none part list (λ k h. ⊎_elim (λ below. absent k below) (λ above. stands_at-long part list k (omega arith)) (cases_lt k n)))
