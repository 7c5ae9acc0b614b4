-- A command that isn't refused meets its conditions.
use Rattle.std.specs.Prelude.{◌≡◌, ℕ, ◌+◌, ◌-◌, ◌<◌, ◌≤◌, Bool, true, false, nat_lt, nat_le, Option, Some, None, List, length, refl}
use Rattle.std.proofs.lemmas.Bool.{leb-true, ltb-true, eqb-true, and_parts}
use Rattle.bitvec_base.specs.declared.window.Window.{Window}
use Rattle.bitvec_base.specs.Window.{IsWithin}
use Rattle.bitvec_commands.specs.declared.command.Op.{Op}
use Rattle.bitvec_commands.specs.declared.command.Op.TheVariants.{Get, Set, Replace, Swap, ShiftStart, ShiftEnd, RotateLeft, RotateRight, CopyWithin, CopyFrom, And, Or, Xor, Eq, Cmp, StartsWith, EndsWith, Contains}
use Rattle.bitvec_commands.specs.declared.command.Refusal.{Refusal}
use Rattle.bitvec_commands.specs.Commands.{op_refusal, amount_refusal, index_refusal, right_refusal}
use Rattle.bitvec_commands.specs.Groups.{FitsList, FitsRight}
use Rattle.bitvec_commands.specs.Rows.{unless, or_else, range_lies, lies_in}

-- ---- tests

-- A window that passes the test lies within `n` places.
pub lies_in-within : (window : Window) (n : ℕ) → lies_in window n ≡ true → IsWithin window n
lies_in-within window n test =
    let parts = and_parts (nat_le window.start n) (nat_le window.len (n - window.start)) test in
    record { start = leb-true window.start n parts.0; len = leb-true window.len (n - window.start) parts.1 }

-- A range that passes the test is in order and ends at most at `n`.
pub range_lies-order : (n from to : ℕ) → range_lies n from to ≡ true → (from ≤ to) × (to ≤ n)
range_lies-order n from to test =
    let parts = and_parts (nat_le from to) (nat_le to n) test in
    (leb-true from to parts.0, leb-true to n parts.1)

-- ---- refusals

-- A test whose failure would be refused passes where nothing is refused.
pub passed : (test : Bool) (refusal : Refusal) → unless test refusal ≡ None → test ≡ true
passed true refusal none = refl
passed false refusal none = cc

-- Where neither of two refusals is given, neither condition is refused.
pub both_passed : (first second : Option Refusal) → or_else first second ≡ None → (first ≡ None) × (second ≡ None)
both_passed None second none = (refl, none)
both_passed (Some refusal) second none = cc

index-fits : (m i : ℕ) → index_refusal m i ≡ None → i < m
index-fits m i none = ltb-true i m (passed _ _ none)

amount-fits : (m k : ℕ) → amount_refusal m k ≡ None → k ≤ m
amount-fits m k none = leb-true k m (passed _ _ none)

right-fits : (right : List Bool) (window : Window) → right_refusal right window ≡ None → IsWithin window (length right)
right-fits right window none = lies_in-within window (length right) (passed _ _ none)

-- A command that isn't refused names only what its list has.
pub fits_list : (right : List Bool) (m : ℕ) (op : Op) → op_refusal right m op ≡ None → FitsList m op
fits_list right m (Get i) none = index-fits m i none
fits_list right m (Set i bit) none = index-fits m i none
fits_list right m (Replace i bit) none = index-fits m i none
fits_list right m (Swap i j) none =
    let parts = and_parts (nat_lt i m) (nat_lt j m) (passed _ _ none) in
    (ltb-true i m parts.0, ltb-true j m parts.1)
fits_list right m (ShiftStart k) none = amount-fits m k none
fits_list right m (ShiftEnd k) none = amount-fits m k none
fits_list right m (RotateLeft k) none = amount-fits m k none
fits_list right m (RotateRight k) none = amount-fits m k none
fits_list right m (CopyWithin from to dest) none =
    let conditions = both_passed _ _ none in
    let order = range_lies-order m from to (passed _ _ conditions.0) in
    record { order = order.0; source = order.1; room = leb-true (dest + (to - from)) m (passed _ _ conditions.1) }
fits_list right m (CopyFrom window) none = eqb-true window.len m (passed _ _ (both_passed _ _ none).1)
fits_list right m _ none = tt

-- A command that isn't refused names only what the right list has.
pub fits_right : (right : List Bool) (m : ℕ) (op : Op) → op_refusal right m op ≡ None → FitsRight (length right) op
fits_right right m (CopyFrom window) none = right-fits right window (both_passed _ _ none).0
fits_right right m (And window) none = right-fits right window none
fits_right right m (Or window) none = right-fits right window none
fits_right right m (Xor window) none = right-fits right window none
fits_right right m (Eq window) none = right-fits right window none
fits_right right m (Cmp window) none = right-fits right window none
fits_right right m (StartsWith window) none = right-fits right window none
fits_right right m (EndsWith window) none = right-fits right window none
fits_right right m (Contains window) none = right-fits right window none
fits_right right m _ none = tt
