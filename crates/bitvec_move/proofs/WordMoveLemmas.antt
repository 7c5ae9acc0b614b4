-- Bytes moved by words: what a word of a memory has, and where each is read and written.
use Rattle.std.specs.Prelude.{◌≡◌, ℕ, ◌+◌, ◌-◌, ◌*◌, ◌<◌, ◌≤◌, Bool, true, false, if◌then◌else◌, List, ◌++◌, length, take, drop, replicate, slice_index, slice_range, refl}
use Rattle.std.proofs.Common.{arith, rules, sym, ◌∙◌, ap}
use Rattle.std.proofs.lemmas.List.{same_lists, places}
use Rattle.bitvec_base.specs.Memory.{HasWindow, element_bits, list_in, memory_bits}
use Rattle.bitvec_base.specs.MemoryLaws.{element-range, length-element_bits, length-memory_bits}
use Rattle.bitvec_base.specs.Window.{window_of, write_at}
use Rattle.bitvec_base.specs.WritesLaws.{list-behind, list-range}
use Rattle.bitvec_words.specs.Elements.{elements_window, elements_window_from}
use Rattle.bitvec_words.specs.FieldLaws.{list-whole}
use Rattle.bitvec_words.specs.WholeLaws.{HasWindow-part}
use Rattle.bitvec_words.specs.Moves.{CopiesElements, CopiesSome, HasSkippedElements, IsToward, moved_place, waiting_place}
use Rattle.bitvec_move.proofs.WithinLaws.{list-ahead, part_place}

-- ---- lists

-- an element's bits in a word
pub placed-range : {list : List Bool} {b : ℕ} (to : ℕ) → length list ≡ b → to + b ≤ 64 → slice_range (write_at (replicate 64 false) to (slice_range list 0 (0 + b))) to (to + b) ≡ list
unfolding write_at
placed-range to long fits = same_lists _ _ (search (rules, places)) (λ k d inside. grind (arith, places))

-- as many values as a slice has, which begin inside it or inside what stands before it. The others are a word's first or last ones
list-behind_word : (list word : List Bool) (a b n skip : ℕ) → skip < b → b ≤ n → length word ≡ n → a + n + b ≤ length list → slice_range word 0 b ≡ slice_range list (a + n) (a + n + b)
    → drop skip (slice_range list a (a + n)) ++ take skip word ≡ slice_range list (a + skip) (a + skip + n)
list-behind_word list word a b n skip below narrow long fits same =
    let first : take skip word ≡ take skip (slice_range word 0 b) = same_lists _ _ (search (rules, places)) (λ k d inside. grind (arith, places)) in
    rw (first, same) (same_lists _ _ (search (rules, places)) (λ k d inside. grind (arith, places)))

list-before_word : (list word : List Bool) (a b c n skip : ℕ) → skip < b → c + b ≡ n → length word ≡ n → a + b + n ≤ length list → slice_range word c n ≡ slice_range list a (a + b)
    → drop (c + skip) word ++ take (c + skip) (slice_range list (a + b) (a + b + n)) ≡ slice_range list (a + skip) (a + skip + n)
list-before_word list word a b c n skip below all long fits same =
    let last : drop (c + skip) word ≡ drop skip (slice_range word c n) = same_lists _ _ (search (rules, places)) (λ k d inside. grind (arith, places)) in
    rw (last, same) (same_lists _ _ (search (rules, places)) (λ k d inside. grind (arith, places)))

-- ---- words of bytes

-- the 64 bits from an index of a byte on, by the word that begins with the byte, and by the one behind the byte
pub word-behind : (at : ℕ → ℕ → ℕ) (xs : List ℕ) (e skip : ℕ) (word : List Bool) → HasWindow 8 xs (elements_window_from 8 e skip 8) → 0 < skip → skip < 8 → length word ≡ 64 → slice_range word 0 8 ≡ element_bits 8 at (slice_index xs (e + 8))
    → drop skip (list_in 8 at xs (elements_window 8 e 8)) ++ take skip word ≡ list_in 8 at xs (elements_window_from 8 e skip 8)
unfolding window_of
word-behind at xs e skip word has some below long held =
    let whole = length-memory_bits 8 at xs in
    let place : (e + 8) * 8 ≡ e * 8 + 64 = omega arith in
    let range = rw place at (element-range 8 at xs (e + 8) (omega arith)) in
    list-behind_word (memory_bits 8 at xs) word (e * 8) 8 64 skip below (omega arith) long (omega arith) (held ∙ sym range)

word-before : (at : ℕ → ℕ → ℕ) (xs : List ℕ) (e skip : ℕ) (word : List Bool) → HasWindow 8 xs (elements_window_from 8 e skip 8) → 0 < skip → skip < 8 → length word ≡ 64 → slice_range word 56 64 ≡ element_bits 8 at (slice_index xs e)
    → drop (56 + skip) word ++ take (56 + skip) (list_in 8 at xs (elements_window 8 (e + 1) 8)) ≡ list_in 8 at xs (elements_window_from 8 e skip 8)
unfolding window_of
word-before at xs e skip word has some below long held =
    let whole = length-memory_bits 8 at xs in
    let place : (e + 1) * 8 ≡ e * 8 + 8 = omega arith in
    let range = element-range 8 at xs e (omega arith) in
    rw place (list-before_word (memory_bits 8 at xs) word (e * 8) 8 56 64 skip below refl long (omega arith) (held ∙ sym range))

-- a byte of a word
word-byte : (at : ℕ → ℕ → ℕ) (xs : List ℕ) (e i : ℕ) → i < 8 → HasWindow 8 xs (elements_window 8 e 8)
    → slice_range (list_in 8 at xs (elements_window 8 e 8)) (i * 8) (i * 8 + 8) ≡ element_bits 8 at (slice_index xs (e + i))
word-byte at xs e i below has =
    let place : e * 8 + i * 8 ≡ (e + i) * 8 = omega arith in
    let len : i * 8 + 8 - i * 8 ≡ 8 = omega arith in
    sym (list-range at (i * 8) (i * 8 + 8) has (omega arith) (omega arith))
    ∙ rw (place, len) (list-whole 8 at xs (e + i) (omega arith))

-- a word of the bytes that are read lies in the memory
word-window : (old : List ℕ) (first source skip count e : ℕ) → HasSkippedElements 8 old old first source skip count → source ≤ e → e + 8 ≤ source + count + 1 → HasWindow 8 old (elements_window 8 e 8)
word-window old first source skip count e has low high =
    record { fits = has.span.window.fits; within = record { start = omega arith; len = omega arith } }

-- ---- words of bytes moved from the first one on, or `later` from the last one back

-- the place of the word after which m bytes of n are moved. Then where the word that is read begins, and the carried byte's index in a word
abbrev pub word_place : Bool → ℕ → ℕ → ℕ
word_place later m n = part_place later 8 m n

abbrev pub next_place : Bool → ℕ → ℕ → ℕ
next_place later m n = word_place later m n + (if later then 0 else 1)

abbrev pub carried_place : Bool → ℕ
carried_place later = if later then 0 else 56

-- what is read is as it was
pub word-left : (later : Bool) (at : ℕ → ℕ → ℕ) {old : List ℕ} (now : List ℕ) {first source skip count : ℕ} (k : ℕ) → IsToward later first source → HasSkippedElements 8 old old first source skip count → k + 8 ≤ count → CopiesSome later 8 at old now first source skip count k
    → list_in 8 at now (elements_window 8 (source + next_place later (k + 8) count) 8) ≡ list_in 8 at old (elements_window 8 (source + next_place later (k + 8) count) 8)
word-left false at {old} now {first} {source} {skip} {count} k towards has fits moved =
    list-behind
    (HasWindow-part _ has.span.window (omega arith) (omega arith))
    (word-window old first source skip count (source + (k + 8 - 8 + 1)) has (omega arith) (omega arith))
    (omega arith) moved
word-left true at {old} now {first} {source} {skip} {count} k towards has fits moved =
    list-ahead (elements_window 8 (source + (count - (k + 8) + 0)) 8)
    (HasWindow-part _ has.span.window (omega arith) (omega arith))
    (omega arith) moved

-- its byte that is carried then
pub word-carried : (later : Bool) (at : ℕ → ℕ → ℕ) {xs : List ℕ} {first source skip count : ℕ} (k : ℕ) → HasSkippedElements 8 xs xs first source skip count → k + 8 ≤ count
    → slice_range (list_in 8 at xs (elements_window 8 (source + next_place later (k + 8) count) 8)) (carried_place later) (carried_place later + 8) ≡ element_bits 8 at (slice_index xs (source + waiting_place later (k + 8) count))
word-carried false at {xs} {first} {source} {skip} {count} k has fits =
    word-byte at xs (source + (k + 8 - 8 + 1)) 7 (omega arith) (word-window xs first source skip count (source + (k + 8 - 8 + 1)) has (omega arith) (omega arith))
    ∙ ap (λ (e : ℕ). element_bits 8 at (slice_index xs e)) (omega arith)
word-carried true at {xs} {first} {source} {skip} {count} k has fits =
    word-byte at xs (source + (count - (k + 8) + 0)) 0 (omega arith) (word-window xs first source skip count (source + (count - (k + 8) + 0)) has (omega arith) (omega arith))
    ∙ ap (λ (e : ℕ). element_bits 8 at (slice_index xs e)) (omega arith)

-- the word that is stored, joined of it and of the carried one
pub word-joined : (later : Bool) (at : ℕ → ℕ → ℕ) {xs : List ℕ} {first source skip count : ℕ} (k last next : ℕ) {pair : ℕ × ℕ} → HasSkippedElements 8 xs xs first source skip count → k + 8 ≤ count
    → slice_range (element_bits 64 at last) (carried_place later) (carried_place later + 8) ≡ element_bits 8 at (slice_index xs (source + waiting_place later k count))
    → element_bits 64 at next ≡ list_in 8 at xs (elements_window 8 (source + next_place later (k + 8) count) 8) → pair ≡ (if later then (next, last) else (last, next))
    → drop (carried_place later + skip) (element_bits 64 at pair.0) ++ take (carried_place later + skip) (element_bits 64 at pair.1) ≡ list_in 8 at xs (elements_window_from 8 (source + word_place later (k + 8) count) skip 8)
word-joined false at {xs} {first} {source} {skip} k last next has fits carried read is =
    let here : k + 8 - 8 ≡ k = omega arith in
    let behind : source + (k + 8 - 8 + 1) ≡ source + k + 1 = omega arith in
    rw (is, rw behind at read, here)
    (word-before at xs (source + k) skip _ (HasWindow-part _ has.span.beside (omega arith) (omega arith)) has.inside has.bound (length-element_bits 64 at last) carried)
word-joined true at {xs} {first} {source} {skip} {count} k last next has fits carried read is =
    let here : source + (count - (k + 8) + 0) ≡ source + (count - (k + 8)) = omega arith in
    let behind : source + (count - k) ≡ source + (count - (k + 8)) + 8 = omega arith in
    let none : 0 + skip ≡ skip = omega arith in
    rw (is, rw here at read, none)
    (word-behind at xs (source + (count - (k + 8))) skip _ (HasWindow-part _ has.span.beside (omega arith) (omega arith)) has.inside has.bound (length-element_bits 64 at last) (rw behind at carried))

moved_all : (later : Bool) (n : ℕ) → moved_place later n n ≡ 0
moved_all false n = refl
moved_all true n = omega arith

-- in the end all are
pub CopiesSome-all : (later : Bool) (at : ℕ → ℕ → ℕ) (old new : List ℕ) (first source skip count : ℕ) → CopiesSome later 8 at old new first source skip count count → CopiesElements 8 at old new old first source skip count
CopiesSome-all later at old new first source skip count moved =
    let none : moved_place later count count ≡ 0 = moved_all later count in
    let to : first + 0 ≡ first = omega arith in
    let from : source + 0 ≡ source = omega arith in
    rw (none, to, from) at moved
