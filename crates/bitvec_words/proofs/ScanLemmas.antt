-- A search of a window by two parts of it, side by side, and of whole elements one after the other.
use Rattle.std.specs.Prelude.{◌≡◌, ◌≢◌, ℕ, ◌+◌, ◌-◌, ◌^◌, ◌<◌, ◌≤◌, if◌then◌else◌, Bool, true, false, not, List, ◌++◌, length, replicate, slice_index_or, slice_range, bit_xor, Option, Some, None, refl}
use Rattle.std.proofs.Common.{arith, sym, ◌∙◌, ap}
use Rattle.std.specs.Int.Bits.{xor_self}
use Rattle.std.proofs.lemmas.List.{get_or_default, get_or-replicate, length-replicate, same_lists}
use Rattle.std.proofs.lemmas.Nat.{pow_pos}
use Rattle.bitvec_base.specs.BitsFixMemory.{element_bits-fix}
use Rattle.bitvec_base.specs.declared.window.Window.{Window}
use Rattle.bitvec_base.specs.Lists.{first_place, last_place}
use Rattle.bitvec_base.specs.Memory.{HasWindow, element_bits, list_in}
use Rattle.bitvec_base.specs.MemoryLaws.{length-element_bits}
use Rattle.bitvec_base.specs.Order.{Permutes}
use Rattle.bitvec_base.specs.PlacesLaws.{first_place-absent, first_place-append, first_place-below, first_place-other, last_place-absent, last_place-append, last_place-below, last_place-other}
use Rattle.bitvec_base.specs.SliceLaws.{range-all}
use Rattle.bitvec_base.specs.WritesLaws.{length-list}
use Rattle.bitvec_cells.specs.Cost.{first_loads, last_loads}
use Rattle.bitvec_cells.specs.ElementLaws.{element-filled}
use Rattle.bitvec_cells.specs.WalkLaws.{first_loads-most}
use Rattle.bitvec_words.specs.Elements.{elements_window}
use Rattle.bitvec_words.specs.SameLaws.{xor_none}
use Rattle.bitvec_words.specs.TouchedLaws.{touched-first, touched-whole}

-- ---- lists

-- the front has the bit, or lacks it and what is behind has it, or both lack it
pub first-front : (want : Bool) (front rest : List Bool) {whole : List Bool} {i : ℕ} → Some i ≡ first_place want front → front ++ rest ≡ whole → Some i ≡ first_place want whole
first-front want front rest here next = rw (← next, first_place-append want front rest, ← here) refl

pub first-behind : (want : Bool) (front rest : List Bool) {whole : List Bool} {n : ℕ} (i : ℕ) → None ≡ first_place want front → Some i ≡ first_place want rest → n ≡ length front → front ++ rest ≡ whole → Some (n + i) ≡ first_place want whole
first-behind want front rest i none here long next = rw (← next, first_place-append want front rest, ← none, ← here, long) refl

pub first-lacks : (want : Bool) (front rest : List Bool) {whole : List Bool} → None ≡ first_place want front → None ≡ first_place want rest → front ++ rest ≡ whole → None ≡ first_place want whole
first-lacks want front rest none here next = rw (← next, first_place-append want front rest, ← none, ← here) refl

-- what is behind has it, or lacks it, and then the front decides
pub last-behind : (want : Bool) (front rest : List Bool) {whole : List Bool} {n : ℕ} (i : ℕ) → Some i ≡ last_place want rest → n ≡ length front → front ++ rest ≡ whole → Some (n + i) ≡ last_place want whole
last-behind want front rest i here long next = rw (← next, last_place-append want front rest, ← here, long) refl

pub last-front : (want : Bool) (front rest : List Bool) {whole : List Bool} {found : Option ℕ} → None ≡ last_place want rest → found ≡ last_place want front → front ++ rest ≡ whole → found ≡ last_place want whole
last-front want front rest none here next = rw (← next, last_place-append want front rest, ← none) here

-- ---- an element

-- one that has no bit but the other
lacks_all : (b : ℕ) (at : ℕ → ℕ → ℕ) → Permutes b (at b) → (v w n : ℕ) (bit : Bool) → n ≡ bit_xor v w → n ≡ 0 → w ≡ (if bit then 2 ^ b - 1 else 0) → v ≡ (if bit then 2 ^ b - 1 else 0)
lacks_all b at p v w n bit is none filled = xor_none v w (sym is ∙ none) ∙ filled

pub first-passed : (b : ℕ) (at : ℕ → ℕ → ℕ) → Permutes b (at b) → (v w n : ℕ) (want : Bool) → n ≡ bit_xor v w → n ≡ 0 → w ≡ (if not want then 2 ^ b - 1 else 0) → None ≡ first_place want (element_bits b at v)
first-passed b at p v w n want is none filled =
    rw (lacks_all b at p v w n (not want) is none filled, element-filled b at p (not want), first_place-other want b) refl

pub last-passed : (b : ℕ) (at : ℕ → ℕ → ℕ) → Permutes b (at b) → (v w n : ℕ) (want : Bool) → n ≡ bit_xor v w → n ≡ 0 → w ≡ (if not want then 2 ^ b - 1 else 0) → None ≡ last_place want (element_bits b at v)
last-passed b at p v w n want is none filled =
    rw (lacks_all b at p v w n (not want) is none filled, element-filled b at p (not want), last_place-other want b) refl

-- one that has others, which must be the bit
filled_below : (b : ℕ) (bit : Bool) → (if bit then 2 ^ b - 1 else 0) < 2 ^ b
filled_below b true = let some = pow_pos b in omega arith
filled_below b false = pow_pos b

same_filled : (b : ℕ) (at : ℕ → ℕ → ℕ) → Permutes b (at b) → (v w n : ℕ) (bit : Bool) → n ≡ bit_xor v w → n ≢ 0 → v < 2 ^ b → w ≡ (if bit then 2 ^ b - 1 else 0) → element_bits b at v ≡ replicate b bit → ⊥
same_filled b at p v w n bit is some small filled all =
    let same = element_bits-fix b at p v w small (rw filled (filled_below b bit)) (all ∙ sym (ap (element_bits b at) filled ∙ element-filled b at p bit)) in
    some (is ∙ rw same (xor_self w))

-- a list without the bit
other_bit : (want bit : Bool) → bit ≢ want → bit ≡ not want
other_bit want bit apart = grind arith

pub lacks_filled : (b : ℕ) (list : List Bool) (want : Bool) → length list ≡ b → ((k : ℕ) → k < length list → slice_index_or list k false ≢ want) → list ≡ replicate b (not want)
lacks_filled b list want long absent =
    let other = length-replicate b (not want) in
    same_lists _ _ (omega arith) (λ k d inside.
    get_or_default list k d false inside
    ∙ other_bit want _ (absent k inside)
    ∙ sym (get_or-replicate b k (not want) d (omega arith)))

pub first-must : (b : ℕ) (at : ℕ → ℕ → ℕ) → Permutes b (at b) → (v w n : ℕ) (want : Bool) → n ≡ bit_xor v w → n ≢ 0 → v < 2 ^ b → w ≡ (if not want then 2 ^ b - 1 else 0) → None ≡ first_place want (element_bits b at v) → ⊥
first-must b at p v w n want is some small filled none =
    same_filled b at p v w n (not want) is some small filled
    (lacks_filled b (element_bits b at v) want (length-element_bits b at v) (first_place-absent want (element_bits b at v) (sym none)))

pub last-must : (b : ℕ) (at : ℕ → ℕ → ℕ) → Permutes b (at b) → (v w n : ℕ) (want : Bool) → n ≡ bit_xor v w → n ≢ 0 → v < 2 ^ b → w ≡ (if not want then 2 ^ b - 1 else 0) → None ≡ last_place want (element_bits b at v) → ⊥
last-must b at p v w n want is some small filled none =
    same_filled b at p v w n (not want) is some small filled
    (lacks_filled b (element_bits b at v) want (length-element_bits b at v) (last_place-absent want (element_bits b at v) (sym none)))

-- all its bits
pub range-element : {b : ℕ} (at : ℕ → ℕ → ℕ) (v : ℕ) {n : ℕ} → n ≡ b → slice_range (element_bits b at v) 0 n ≡ element_bits b at v
range-element {b} at v all = let long = length-element_bits b at v in rw all (range-all (element_bits b at v) b (omega arith))

-- a place of it
pub first-below : (b : ℕ) (at : ℕ → ℕ → ℕ) (v i : ℕ) (want : Bool) → Some i ≡ first_place want (element_bits b at v) → i < b
first-below b at v i want here =
    omega (arith, first_place-below want (element_bits b at v) i (sym here), length-element_bits b at v)

pub last-below : (b : ℕ) (at : ℕ → ℕ → ℕ) (v i : ℕ) (want : Bool) → Some i ≡ last_place want (element_bits b at v) → i < b
last-below b at v i want here =
    omega (arith, last_place-below want (element_bits b at v) i (sym here), length-element_bits b at v)

-- ---- the elements that are loaded, s being the first place of a window

-- of whole elements a search loads no more than there are
pub first_loads-elements : {b : ℕ} (at : ℕ → ℕ → ℕ) {xs : List ℕ} (first count : ℕ) (want : Bool) {found : Option ℕ} → 0 < b → HasWindow b xs (elements_window b first count) → found ≡ first_place want (list_in b at xs (elements_window b first count))
    → first_loads b (elements_window b first count) found ≤ count
first_loads-elements at first count want some has is = rw is (omega (arith, first_loads-most, touched-whole))

-- of a search from the back: in a window that has a bit, or none
pub last_loads-some : (b : ℕ) (window : Window) (found : Option ℕ) → 0 < window.len → ((i : ℕ) → found ≡ Some i → i < window.len) → 1 ≤ last_loads b window found
last_loads-some b window None some below = let first = touched-first b window.start window.len some in omega arith
last_loads-some b window (Some i) some below =
    let inside = below i refl in
    let first = touched-first b (window.start + i) (window.len - i) (omega arith) in
    omega arith

-- ---- windows

-- a place that is found lies in the window
pub first-inside : (b : ℕ) (at : ℕ → ℕ → ℕ) (xs : List ℕ) (window : Window) (want : Bool) (i : ℕ) → HasWindow b xs window → Some i ≡ first_place want (list_in b at xs window) → i < window.len
first-inside b at xs window want i has here =
    omega (arith, first_place-below want (list_in b at xs window) i (sym here), length-list at has)

pub last-inside : {b : ℕ} (at : ℕ → ℕ → ℕ) {xs : List ℕ} {window : Window} (want : Bool) {found : Option ℕ} → HasWindow b xs window → found ≡ last_place want (list_in b at xs window) → (i : ℕ) → found ≡ Some i → i < window.len
last-inside {b} at {xs} {window} want has is i here =
    omega (arith, last_place-below want (list_in b at xs window) i (sym is ∙ here), length-list at has)
