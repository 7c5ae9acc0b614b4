-- Numbers of fields that follow one another, split off one number and joined to one.
use Rattle.std.specs.Prelude.{◌≡◌, ℕ, ◌+◌, ◌-◌, ◌*◌, ◌/◌, ◌%◌, ◌^◌, ◌<◌, ◌≤◌, if◌then◌else◌, Bool, true, false, List, ◌++◌, length, slice_range, refl}
use Rattle.std.proofs.Common.{arith, rules, sym, ◌∙◌, ap, subst}
use Rattle.std.proofs.lemmas.List.{places, same_lists}
use Rattle.std.proofs.lemmas.Nat.{div-add-mod', mod_below, pow-add, pow_pos, same_from_place, shl_below}
use Rattle.bitvec.specs.LoadLaws.{joined_below, loaded_be-below, loaded_le-below}
use Rattle.bitvec.specs.PlainLaws.{append-highest, append-lowest, loaded_be-plain, loaded_le-plain}
use Rattle.bitvec.specs.Segments.{segment_number}
use Rattle.bitvec.specs.Types.{Window}
use Rattle.bitvec.specs.Window.{IsWithin, window_of}
use Rattle.bitvec.specs.WindowLaws.{length-window}
use Rattle.bitrecord.specs.Records.{field_number}
use Rattle.bitrecord.specs.Runs.{IsSeamless, SplitsOff, aligned, plain_number}
use Rattle.bitrecord.specs.declared.endian.Endian.{Endian}
use Rattle.bitrecord.specs.declared.endian.Endian.TheVariants as end

-- where segments join without a seam, a number is that of one
pub seamless-number : (endian : Endian) (high : Bool) (b s : ℕ) (list : List Bool) (field : Window) → IsSeamless endian high → field_number endian high b s list field ≡ plain_number high list field
seamless-number end.Little high b s list field is = loaded_le-plain high b (s + field.start) (window_of list field) is
seamless-number end.Big high b s list field is = loaded_be-plain high b (s + field.start) (window_of list field) is

pub plain-below : (high : Bool) (list : List Bool) (field : Window) → IsWithin field (length list) → plain_number high list field < 2 ^ field.len
plain-below false list field inside = rw (loaded_le-plain false 1 0 (window_of list field) refl, length-window list field inside) at (loaded_le-below false 1 0 (window_of list field))
plain-below true list field inside = rw (loaded_be-plain true 1 0 (window_of list field) refl, length-window list field inside) at (loaded_be-below true 1 0 (window_of list field))

slices-joined : (list : List Bool) (a m n : ℕ) → a + (m + n) ≤ length list → slice_range list a (a + (m + n)) ≡ slice_range list a (a + m) ++ slice_range list (a + m) (a + m + n)
slices-joined list a m n within = same_lists _ _ (search (rules, places)) (λ k d inside. grind (arith, places))

windows-joined : (list : List Bool) (x y all : Window) → IsWithin all (length list) → x.start ≡ all.start → y.start ≡ all.start + x.len → all.len ≡ x.len + y.len → window_of list all ≡ window_of list x ++ window_of list y
unfolding window_of
windows-joined list x y all inside start next len =
    let from = inside.start in
    let most = inside.len in
    rw (start, next, len) (slices-joined list all.start x.len y.len (omega arith))

-- the number of two windows, one behind the other
pub number-joined : (high : Bool) (list : List Bool) (x y all : Window) → IsWithin all (length list) → x.start ≡ all.start → y.start ≡ all.start + x.len → all.len ≡ x.len + y.len
    → plain_number high list all ≡ (if high then plain_number high list x * 2 ^ y.len + plain_number high list y else plain_number high list y * 2 ^ x.len + plain_number high list x)
number-joined true list x y all inside start next len =
    let from = inside.start in
    let most = inside.len in
    let long = length-window list y (record { start = omega arith; len = omega arith }) in
    ap (segment_number true) (windows-joined list x y all inside start next len) ∙ append-highest (window_of list x) (window_of list y) ∙ rw long refl
number-joined false list x y all inside start next len =
    let from = inside.start in
    let most = inside.len in
    let long = length-window list x (record { start = omega arith; len = omega arith }) in
    ap (segment_number false) (windows-joined list x y all inside start next len) ∙ append-lowest (window_of list x) (window_of list y) ∙ rw long refl

moved_up : (x y a b c w : ℕ) → a * (b * c) ≡ w → (x * a + y) * b * c ≡ x * w + y * (b * c)
moved_up x y a b c w is = rw (← is) (omega arith)

-- what is split off is the first of two numbers, and what is left the second
pub split-joined : (high : Bool) (word both x y m n number left : ℕ) → word ≡ aligned high both (m + n) → both ≡ (if high then x * 2 ^ n + y else y * 2 ^ m + x) → x < 2 ^ m → y < 2 ^ n → m + n ≤ 64
    → SplitsOff high word m number left → (number ≡ x) × (left ≡ aligned high y n)
split-joined true word both x y m n number left is sum few less bound split =
    let up : ℕ = 64 - (m + n) in
    let power : 2 ^ n * (2 ^ up * 2 ^ m) ≡ 2 ^ 64 = ap (λ (k : ℕ). 2 ^ n * k) (sym (pow-add 2 up m)) ∙ sym (pow-add 2 n (up + m)) ∙ ap (λ (k : ℕ). 2 ^ k) (let e : n + (up + m) ≡ 64 = omega arith in e) in
    let rest : 2 ^ up * 2 ^ m ≡ 2 ^ (64 - n) = sym (pow-add 2 up m) ∙ ap (λ (k : ℕ). 2 ^ k) (let e : up + m ≡ 64 - n = omega arith in e) in
    let low : y * 2 ^ (64 - n) < 2 ^ 64 = subst (λ (k : ℕ). y * 2 ^ (64 - n) < 2 ^ k) (let e : n + (64 - n) ≡ 64 = omega arith in e) (shl_below y n (64 - n) less) in
    let whole : word * 2 ^ m ≡ x * 2 ^ 64 + y * 2 ^ (64 - n) =
    ap (λ (k : ℕ). k * 2 ^ m) (is ∙ ap (λ (k : ℕ). k * 2 ^ up) sum) ∙ moved_up x y (2 ^ n) (2 ^ up) (2 ^ m) (2 ^ 64) power ∙ ap (λ (k : ℕ). x * 2 ^ 64 + y * k) rest in
    same_from_place number left x (y * 2 ^ (64 - n)) (2 ^ 64) split.1 low (sym split.0 ∙ whole)
split-joined false word both x y m n number left is sum few less bound split =
    let same = same_from_place left number y x (2 ^ m) split.1 few (sym split.0 ∙ is ∙ sum) in
    (same.1, same.0)

-- the number of a window that ends another one, of the number of that
pub last-number : (high : Bool) (list : List Bool) (x y all : Window) (word : ℕ) → IsWithin all (length list) → x.start ≡ all.start → y.start ≡ all.start + x.len → all.len ≡ x.len + y.len
    → word ≡ plain_number high list all → (if high then word % 2 ^ y.len else word / 2 ^ x.len) ≡ plain_number high list y
last-number true list x y all word inside start next len is =
    let from = inside.start in
    let most = inside.len in
    (same_from_place (word / 2 ^ y.len) (word % 2 ^ y.len) (plain_number true list x) (plain_number true list y) (2 ^ y.len) (mod_below word (2 ^ y.len) (pow_pos y.len))
    (plain-below true list y (record { start = omega arith; len = omega arith })) (div-add-mod' word (2 ^ y.len) ∙ is ∙ number-joined true list x y all inside start next len)).1
last-number false list x y all word inside start next len is =
    let from = inside.start in
    let most = inside.len in
    (same_from_place (word / 2 ^ x.len) (word % 2 ^ x.len) (plain_number false list y) (plain_number false list x) (2 ^ x.len) (mod_below word (2 ^ x.len) (pow_pos x.len))
    (plain-below false list x (record { start = omega arith; len = omega arith })) (div-add-mod' word (2 ^ x.len) ∙ is ∙ number-joined false list x y all inside start next len)).0

-- the numbers of which a number is joined are its only ones
pub joined-parts : (high : Bool) (both x y word next m n : ℕ) → both ≡ (if high then x * 2 ^ n + y else y * 2 ^ m + x) → both ≡ (if high then word * 2 ^ n + next else next * 2 ^ m + word)
    → x < 2 ^ m → y < 2 ^ n → word < 2 ^ m → next < 2 ^ n → (x ≡ word) × (y ≡ next)
joined-parts true both x y word next m n sum is few less low least = same_from_place x y word next (2 ^ n) less least (sym sum ∙ is)
joined-parts false both x y word next m n sum is few less low least =
    let same = same_from_place y x next word (2 ^ m) few low (sym sum ∙ is) in
    (same.1, same.0)

pub joined-below : (high : Bool) (word next m n whole : ℕ) → whole ≡ (if high then word * 2 ^ n + next else next * 2 ^ m + word) → word < 2 ^ m → next < 2 ^ n → whole < 2 ^ (m + n)
joined-below true word next m n whole is low least = let power : 2 ^ (n + m) ≡ 2 ^ (m + n) = ap (λ (k : ℕ). 2 ^ k) (omega arith) in rw (is, ← power) (joined_below word next m n low least)
joined-below false word next m n whole is low least = rw is (joined_below next word n m least low)

-- a list that has at two windows, one behind the other, the number joined of two has one at each
pub parts-told : (high : Bool) (list : List Bool) (x y all : Window) (word next whole : ℕ) → IsWithin all (length list) → x.start ≡ all.start → y.start ≡ all.start + x.len → all.len ≡ x.len + y.len
    → whole ≡ (if high then word * 2 ^ y.len + next else next * 2 ^ x.len + word) → word < 2 ^ x.len → next < 2 ^ y.len → plain_number high list all ≡ whole → (plain_number high list x ≡ word) × (plain_number high list y ≡ next)
parts-told high list x y all word next whole inside start behind len joined low least is =
    let from = inside.start in
    let most = inside.len in
    joined-parts high (plain_number high list all) _ _ word next x.len y.len (number-joined high list x y all inside start behind len) (is ∙ joined)
    (plain-below high list x (record { start = omega arith; len = omega arith })) (plain-below high list y (record { start = omega arith; len = omega arith })) low least
