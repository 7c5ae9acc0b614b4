-- A needle that is looked for at one index after the other.
use Rattle.std.specs.Prelude.{◌≡◌, ℕ, ◌+◌, ◌-◌, ◌*◌, ◌<◌, ◌≤◌, Bool, List}
use Rattle.std.proofs.Common.{arith, sym, ◌∙◌}
use Rattle.std.proofs.Math.Nat.{mul-le-mul_right}
use Rattle.std.proofs.lemmas.Bool.{le-leb}
use Rattle.std.proofs.lemmas.Bool.Decides.{nat_tests}
use Rattle.bitvec_base.specs.declared.window.Window.{Window}
use Rattle.bitvec_base.specs.Lists.{same_bits, stands_at}
use Rattle.bitvec_base.specs.Memory.{list_in, HasWindow}
use Rattle.bitvec_base.specs.NeedleLaws.{stands-part}
use Rattle.bitvec_base.specs.Window.{window_range}
use Rattle.bitvec_base.specs.WritesLaws.{length-list, within-list}
use Rattle.bitvec_cells.specs.Access.{OnlyReadsAtMost}
use Rattle.bitvec_cells.specs.declared.cells.CellsRead.{Ghosts as Access}
use Rattle.bitvec_cells.specs.Cost.{read_loads, equal_loads, needle_loads}

-- whether it stands at an index, by the equality of that part, where both memories are as at first
pub stands-found : {b r : ℕ} (at other_at : ℕ → ℕ → ℕ) {xs now ys right : List ℕ} {window needle part : Window} {found : Bool} (from : ℕ) → HasWindow b xs window → HasWindow r ys needle → from + needle.len ≤ window.len
    → now ≡ xs → right ≡ ys → part ≡ window_range window from (from + needle.len) → found ≡ same_bits (list_in b at now part) (list_in r other_at right needle) → stands_at (list_in r other_at ys needle) (list_in b at xs window) from ≡ found
stands-found {b} {r} at other_at {xs} {now} {ys} {right} {window} {needle} {part} {found} from has other fits kept right_kept place value =
    let long = length-list other_at other in
    rw (value, kept, right_kept, place)
    (sym (stands-part _ _ window (window_range window from (from + needle.len)) from (within-list at has) (omega arith) (omega arith) (omega arith)))

-- one index more, at the cost of one equality
pub cost-more : (b : ℕ) (words : Bool) (old before after i : ℕ) {m n : ℕ} → m ≡ n → before ≤ old + i * read_loads b words n → after ≤ before + equal_loads b words m n → after ≤ old + (i + 1) * read_loads b words n
cost-more b words old before after i same so_far next = grind (arith, nat_tests)

-- the last index, at the cost of as many equalities as there may be
pub reads-found : {E C : Type 0} {access : Access C E} {old mid new : C} {i m n : ℕ} (b : ℕ) (words : Bool) (w : ℕ) → OnlyReadsAtMost access old mid (i * read_loads b words n) → OnlyReadsAtMost access mid new (equal_loads b words m n) → m ≡ n → i < w + 1 - n
    → OnlyReadsAtMost access old new (needle_loads b words w n (w - n + 1))
reads-found {access = access} {old} {mid} {new} {i} {m} {n} b words w reads next same inside =
    let more = cost-more b words (access.loads old) (access.loads mid) (access.loads new) i same reads.loads next.loads in
    let shorter : n ≤ w = omega arith in
    let step : i + 1 ≤ w - n + 1 = omega arith in
    rw (le-leb n w shorter) (record { numbers = next.numbers ∙ reads.numbers; borrow = next.borrow ∙ reads.borrow; loads = omega (arith, mul-le-mul_right (read_loads b words n) step); stores = next.stores ∙ reads.stores })
