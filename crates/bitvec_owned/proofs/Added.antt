-- Lists that were added to a sequence, one after the other, and the words in which they came.
use Rattle.std.specs.Prelude.{◌≡◌, ℕ, ◌+◌, ◌-◌, ◌<◌, ◌≤◌, ◌==◌, Bool, true, false, if◌then◌else◌, is_ok, length, List, [], ◌∷◌, ◌++◌, OnErr, Result, Ok, Err, drop, slice_range, take, refl}
use Rattle.std.specs.Int.{bit_at}
use Rattle.std.proofs.Common.{◌∙◌, ap, append_assoc, arith, length-append, subst, sym}
use Rattle.std.proofs.lemmas.List.{append-nil, drop-append-le, drop_all, drop-drop, get_or-drop, get_or-take, length-drop, length-take-le, same_lists}
use Rattle.std.proofs.lemmas.Slice.{between_from_start}
use Rattle.bitvec_base.specs.Memory.{element_bits}
use Rattle.bitvec_base.specs.MemoryLaws.{get-element_bits, length-element_bits}
use Rattle.bitvec_base.specs.SliceLaws.{range-to_end}
use Rattle.bitvec_base.specs.Window.{window_of}
use Rattle.bitvec_segments.specs.Segments.{segment_bits}
use Rattle.bitvec_slice.specs.Seen.{Seen, shown}
use Rattle.bitvec_owned.specs.AroundLaws.{around-then}
use Rattle.bitvec_owned.specs.Copies.{KeepsAround}
use Rattle.bitvec_owned.proofs.Fillings.{one}

-- the bits of a list were added, and what stands around them stayed
abbrev pub Adds : {T : Type 0} → ℕ → Seen T → List Bool → Seen T → Type 0
Adds b before list after = (after.bits ≡ before.bits ++ list) × KeepsAround b before after

module _ {T : Type 0} (b : ℕ) where
  -- none; and one list, then another
  pub adds-none : (sequence : Seen T) → Adds b sequence [] sequence
  adds-none sequence = (sym (append-nil sequence.bits), record { start = refl; front = refl; zeros = λ was. was })

  pub adds-then : (first second last : Seen T) (list more : List Bool) → Adds b first list second → last.bits ≡ second.bits ++ more → KeepsAround b second last → Adds b first (list ++ more) last
  adds-then first second last list more one two around =
      (two ∙ ap (λ (l : List Bool). l ++ more) one.0 ∙ append_assoc first.bits list more, around-then b first second last one.1 around)

-- of a list the first bits were added, and the others are the last ones of a word
abbrev pub Held : {T : Type 0} → ℕ → Seen T → Seen T → List Bool → ℕ → ℕ → Type 0
Held b first now list word held = (done : List Bool) × Adds b first done now × (list ≡ done ++ drop (64 - held) (element_bits 64 (λ b i. i) word))

module _ {T : Type 0} (b : ℕ) (first now : Seen T) (list : List Bool) (word held : ℕ) where
  abbrev bits_of : ℕ → List Bool
  bits_of word = element_bits 64 (λ b i. i) word

  -- no bit is held
  none-held : drop 64 (bits_of word) ≡ []
  none-held = let long = length-element_bits 64 (λ b i. i) word in drop_all 64 (bits_of word) (omega arith)

  pub held-none : Held b now now [] word 0
  held-none = ([], adds-none b now, sym none-held)

  -- those that were held are added
  pub held-added : (next : Seen T) → Held b first now list word held → next.bits ≡ now.bits ++ drop (64 - held) (bits_of word) → KeepsAround b now next → Held b first next list word 0
  held-added next was more around =
      let last = drop (64 - held) (bits_of word) in
      (was.0 ++ last, adds-then b first now next was.0 last was.1 more around, was.2 ∙ sym (ap (λ (l : List Bool). (was.0 ++ last) ++ l) none-held ∙ append-nil (was.0 ++ last)))

  -- the word moves by one place, and a bit comes behind its last
  pub held-more : (next other : ℕ) (bit : Bool) → Held b first now list word held → held < 64 → bits_of next ≡ drop 1 (bits_of word) ++ take 1 (bits_of other) → take 1 (bits_of other) ≡ bit ∷ []
      → Held b first now (list ++ (bit ∷ [])) next (held + 1)
  held-more next other bit was few moved last =
      let long = length-element_bits 64 (λ b i. i) word in
      let rest = length-drop 1 (bits_of word) in
      let places : 1 + (64 - (held + 1)) ≡ 64 - held = omega arith in
      let behind : drop (64 - (held + 1)) (bits_of next) ≡ drop (64 - held) (bits_of word) ++ (bit ∷ []) =
      ap (drop (64 - (held + 1))) moved
      ∙ drop-append-le (64 - (held + 1)) (drop 1 (bits_of word)) (take 1 (bits_of other)) (omega arith)
      ∙ ap (λ (l : List Bool). drop (64 - (held + 1)) (drop 1 (bits_of word)) ++ l) last
      ∙ ap (λ (l : List Bool). l ++ (bit ∷ [])) (drop-drop (64 - (held + 1)) 1 (bits_of word) ∙ ap (λ (n : ℕ). drop n (bits_of word)) places) in
      (was.0, was.1, ap (λ (l : List Bool). l ++ (bit ∷ [])) was.2 ∙ append_assoc was.0 (drop (64 - held) (bits_of word)) (bit ∷ []) ∙ ap (λ (l : List Bool). was.0 ++ l) (sym behind))

  -- how many bits there are with those that are held
  pub held-long : Held b first now list word held → held ≤ 64 → length now.bits + held ≡ length first.bits + length list
  held-long was few =
      let last = drop (64 - held) (bits_of word) in
      let long = length-element_bits 64 (λ b i. i) word in
      let added = ap length was.1.0 ∙ length-append first.bits was.0 in
      let all = ap length was.2 ∙ length-append was.0 last in
      let behind = length-drop (64 - held) (bits_of word) in
      omega arith

  -- where none is held, all were added
  pub held-all : Held b first now list word 0 → Adds b first list now
  held-all was = subst (λ (l : List Bool). Adds b first l now) (sym (was.2 ∙ ap (λ (l : List Bool). was.0 ++ l) none-held ∙ append-nil was.0)) was.1

-- the first bit of the word that a truth value is
pub first-bit : (bit : Bool) (word : ℕ) → (bit ≡ true → word ≡ 1) → (bit ≡ false → word ≡ 0) → take 1 (element_bits 64 (λ b i. i) word) ≡ bit ∷ []
unfolding element_bits
first-bit true word one none = rw (one refl) refl
first-bit false word one none = rw (none refl) refl

-- what a view of a word's last bits shows, and one of its first bits
module _ (at : ℕ → ℕ → ℕ) (word len : ℕ) (few : len ≤ 64) where
  abbrev word_bits : List Bool
  word_bits = element_bits 64 at word

  pub last-shown : (shown 64 at (λ word. word) (word ∷ []) (64 - len) len).bits ≡ drop (64 - len) word_bits
  unfolding window_of
  last-shown =
      let long = length-element_bits 64 at word in
      ap (λ (l : List Bool). slice_range l (64 - len) (64 - len + len)) (one 64 at (λ (word : ℕ). word) (omega arith) word)
      ∙ range-to_end word_bits (64 - len) (64 - len + len) (omega arith)

  pub first-shown : (shown 64 at (λ word. word) (word ∷ []) 0 len).bits ≡ take len word_bits
  unfolding window_of
  first-shown =
      let end : 0 + len ≡ len = omega arith in
      ap (λ (l : List Bool). slice_range l 0 (0 + len)) (one 64 at (λ (word : ℕ). word) (omega arith) word)
      ∙ ap (λ (e : ℕ). slice_range word_bits 0 e) end
      ∙ between_from_start word_bits len

-- the lowest bits of a word, from either end
pub highest-shown : (word len : ℕ) → len ≤ 64 → (shown 64 (λ b i. b - 1 - i) (λ word. word) (word ∷ []) (64 - len) len).bits ≡ segment_bits true len word
highest-shown word len few =
    let at : ℕ → ℕ → ℕ = λ b i. b - 1 - i in
    let long = length-element_bits 64 at word in
    let short = length-element_bits len at word in
    let size = length-drop (64 - len) (element_bits 64 at word) in
    last-shown at word len few
    ∙ same_lists (drop (64 - len) (element_bits 64 at word)) (element_bits len at word) (omega arith) (λ i d below.
    let place : 64 - 1 - (64 - len + i) ≡ len - 1 - i = omega arith in
    get_or-drop (64 - len) (element_bits 64 at word) i d
    ∙ get-element_bits 64 at word (64 - len + i) d (omega arith)
    ∙ ap (λ (n : ℕ). bit_at word n == 1) place
    ∙ sym (get-element_bits len at word i d (omega arith)))

pub lowest-shown : (word len : ℕ) → len ≤ 64 → (shown 64 (λ b i. i) (λ word. word) (word ∷ []) 0 len).bits ≡ segment_bits false len word
lowest-shown word len few =
    let at : ℕ → ℕ → ℕ = λ b i. i in
    let long = length-element_bits 64 at word in
    let short = length-element_bits len at word in
    let size = length-take-le len (element_bits 64 at word) (omega arith) in
    first-shown at word len few
    ∙ same_lists (take len (element_bits 64 at word)) (element_bits len at word) (omega arith) (λ i d below.
    get_or-take len (element_bits 64 at word) i d (omega arith)
    ∙ get-element_bits 64 at word i d (omega arith)
    ∙ sym (get-element_bits len at word i d (omega arith)))

-- a call that is refused only where there is no memory is granted where there is
pub granted : {E : Type 0} (result : Result (Unit {0}) E) (bits more same : List Bool) (capacity n : ℕ) → n ≤ capacity → OnErr result (capacity < n)
    → bits ≡ (if is_ok result then more else same) → bits ≡ more
granted (Ok u) bits more same capacity n fits full is = is
granted (Err e) bits more same capacity n fits full is = absurd (omega (arith, full, fits))
