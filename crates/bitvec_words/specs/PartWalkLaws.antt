-- A walk over a window of at most 64 bits that carries them into a word, or a word into them, a part of one element at a time.
use Rattle.std.specs.Prelude.{◌≡◌, ℕ, ◌+◌, ◌-◌, ◌<◌, ◌≤◌, false, List, length, take, replicate, slice_index, slice_range, bit_or}
use Rattle.std.proofs.Common.{arith, sym, ◌∙◌, ap}
use Rattle.std.proofs.lemmas.List.{length-replicate}
use Rattle.std.proofs.lemmas.Nat.{div_below}
use Rattle.bitvec_base.specs.declared.window.Window.{Window}
use Rattle.bitvec_base.specs.Memory.{HasWindow, Writes, element_bits, list_in}
use Rattle.bitvec_base.specs.MemoryLaws.{length-element_bits}
use Rattle.bitvec_base.specs.Parts.{HasPart, first_part_of, part_window}
use Rattle.bitvec_base.specs.Window.{window_after, write_at}
use Rattle.bitvec_base.specs.WriteLaws.{length-slice_range}
use Rattle.bitvec_base.specs.WritesLaws.{Writes-is}
use Rattle.bitvec_cells.specs.Walk.{Walked, passed}
use Rattle.bitvec_cells.specs.WalkLaws.{Writes-next_part, length-first, length-passed, list-next}
use Rattle.bitvec_words.specs.ShortWindow.{padded}
use Rattle.bitvec_words.specs.FieldLaws.{list-part}
use Rattle.bitvec_words.specs.MovedLaws.{element-joined, word-there, take-range}

-- a part of what is left is one of an element of the memory
pub HasPart-first : {b : ℕ} {xs : List ℕ} {window rest : Window} → 0 < b → 0 < rest.len → HasWindow b xs window → Walked b window rest → HasPart b xs (first_part_of b rest)
HasPart-first {b} {xs} {window} {rest} some more has walk =
    let start = walk.start in
    record {
      element = div_below rest.start b (length xs) some (omega arith);
      order = omega arith;
      bound = omega arith;
    }

-- the word has one part more of the window
pub word-next : (b : ℕ) (at : ℕ → ℕ → ℕ) (xs : List ℕ) (window rest : Window) (t n word element moved : ℕ) → 0 < b → 0 < rest.len → window.len ≤ 64 → t ≡ (first_part_of b rest).to - (first_part_of b rest).from → n ≡ window.len - rest.len → HasWindow b xs window → Walked b window rest
    → element ≡ slice_index xs (first_part_of b rest).element
    → element_bits 64 at moved ≡ write_at (replicate 64 false) n (slice_range (element_bits b at element) (first_part_of b rest).from ((first_part_of b rest).from + t))
    → element_bits 64 at word ≡ padded 64 (list_in b at xs (passed window rest))
    → element_bits 64 at (bit_or word moved) ≡ padded 64 (list_in b at xs (passed window (window_after t rest)))
word-next b at xs window rest t n word element moved some more size step count has walk loaded put held =
    let start = walk.start in
    let end = walk.end in
    let part = first_part_of b rest in
    let before = length-passed at has walk in
    let next = length-first b at xs window rest some more has walk in
    let to : part.from + t ≡ part.to = omega arith in
    let holds = list-part at (HasPart-first some more has walk) in
    let bits : slice_range (element_bits b at element) part.from (part.from + t) ≡ list_in b at xs (part_window b part) =
    ap (λ (e : ℕ). slice_range (element_bits b at element) part.from e) to
    ∙ ap (λ (v : ℕ). slice_range (element_bits b at v) part.from part.to) loaded
    ∙ sym holds in
    element-joined 64 at word moved n (list_in b at xs (passed window rest)) (list_in b at xs (part_window b part)) (omega arith) (omega arith) held (put ∙ ap (λ l. write_at (replicate 64 false) n l) bits)
    ∙ ap (padded 64) (list-next at some more step has walk)

-- the window has one part more of the word
pub Writes-next_field : {b : ℕ} {at : ℕ → ℕ → ℕ} {old mid new : List ℕ} {window rest : Window} {t n : ℕ} (word element : ℕ) → 0 < b → 0 < rest.len → window.len ≤ 64 → t ≡ (first_part_of b rest).to - (first_part_of b rest).from → n ≡ window.len - rest.len → HasWindow b old window → Walked b window rest
    → element_bits b at element ≡ write_at (replicate b false) (first_part_of b rest).from (slice_range (element_bits 64 at word) n (n + t))
    → Writes b at old mid (passed window rest) (take (rest.start - window.start) (element_bits 64 at word))
    → Writes b at mid new (part_window b (first_part_of b rest)) (slice_range (element_bits b at element) (first_part_of b rest).from (first_part_of b rest).to)
    → Writes b at old new (passed window (window_after t rest)) (take (rest.start + t - window.start) (element_bits 64 at word))
Writes-next_field {b} {at} {old} {mid} {new} {window} {rest} {t} {n} word element some more size step count has walk put before after =
    let start = walk.start in
    let part = first_part_of b rest in
    let wide = length-element_bits 64 at word in
    let zeros = length-replicate b false in
    let long = length-slice_range (element_bits 64 at word) n (n + t) (omega arith) in
    let passed-bits : rest.start - window.start ≡ n = omega arith in
    let stored : slice_range (element_bits b at element) part.from part.to ≡ slice_range (element_bits 64 at word) n (n + t) =
    ap (λ l. slice_range l part.from part.to) put ∙ word-there part.from part.to (replicate b false) zeros (omega arith) (omega arith) (omega arith) in
    Writes-is
    (Writes-next_part some more step has walk before after)
    (rw (stored, passed-bits) (take-range (element_bits 64 at word) n (n + t) (rest.start + t - window.start) (omega arith) (omega arith) (omega arith)))
