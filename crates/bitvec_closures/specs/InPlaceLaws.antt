-- A view that is narrowed to a piece of it, edited there, and stands again where it stood.
use Rattle.std.specs.Prelude.{◌≡◌, ℕ, ◌+◌, ◌-◌, ◌*◌, ◌≤◌, ◌++◌, Bool, List, drop, length, map, slice_range, take}
use Rattle.std.specs.Borrow.{GName}
use Rattle.std.specs.declared.ops.Range.{Range}
use Rattle.std.proofs.Common.{arith, refl, subst, sym, ◌∙◌, ap, length-append, length-drop}
use Rattle.std.proofs.lemmas.List.{length-map}
use Rattle.bitvec_base.specs.Window.{IsWithin, max_bits, window_of, window_range, write_at, write_window}
use Rattle.bitvec_base.specs.WindowLaws.{length-window, part-of_window, part-written, window-written}
use Rattle.bitvec_base.specs.WriteLaws.{drop-write_at, length-write_at, range-write_at_after, take-write_at, write_at-all, write_at-next, write_at-same}
use Rattle.bitvec_base.specs.declared.window.Window.{Window}
use Rattle.bitvec_slice.specs.Seen.{Seen, outside_of}
use Rattle.bitvec_slice.specs.SeenLaws.{length-memory}
use Rattle.bitvec_slice.specs.Showing.{ShowsElements}
use Rattle.bitvec_cutting.specs.Cutting.{LiesIn, cut}
use Rattle.bitvec_closures.specs.InPlace.{StandsAt, StaysInPlace, WritesInPlace}
use Rattle.bitvec_closures.specs.Pieces.{IsPieceOf, Narrows, range_of}

-- what shows what its elements hold
module _ {T : Type 0} {b : ℕ} {at : ℕ → ℕ → ℕ} {value : T → ℕ} {view : Seen T} (is : ShowsElements b at value view) where
  long-memory : length view.memory ≡ b * length (map value view.elements)
  long-memory = ap length is.memory ∙ length-memory b at value view.elements ∙ ap (λ (n : ℕ). b * n) (sym (length-map view.elements value))

  -- The window of what shows elements lies in its memory.
  pub shown-within : IsWithin view.window (length view.memory)
  shown-within = rw long-memory is.has.within

  -- The memory of what shows elements has at most `max_bits` bits.
  pub shown-fits : length view.memory ≤ max_bits
  shown-fits = rw long-memory is.has.fits

  -- The bits of what shows elements are those of its window in its memory.
  pub shown-bits : view.bits ≡ window_of view.memory view.window
  shown-bits = rw is.memory is.bits

  -- What shows elements has as many bits as its window.
  pub length-shown : length view.bits ≡ view.window.len
  length-shown = ap length shown-bits ∙ length-window view.memory view.window shown-within

module _ {V T : Type 0} {shows : V → Seen T} {named : V → GName} where
  -- ---- a view that stays in its place

  -- A view that stays in its place in two edits stays in its place in both together.
  pub stays-then : {first second last : V} → StaysInPlace shows named first second → StaysInPlace shows named second last → StaysInPlace shows named first last
  stays-then one two = record { outside = two.outside ∙ one.outside; window = two.window ∙ one.window; elements = two.elements ∙ one.elements; name = two.name ∙ one.name }

  -- A piece of a view after other pieces were edited is that piece of the view before.
  pub piece-before : {view now : V} {piece : Seen T} (range : Range ℕ) → StaysInPlace shows named view now → cut (shows now).bits range ≡ cut (shows view).bits range → IsPieceOf (shows now) range piece → IsPieceOf (shows view) range piece
  piece-before range stays same is = record { bits = is.bits ∙ same; start = is.start ∙ ap (λ (w : Window). w.start + range.start) stays.window; len = is.len }

  module _ {b : ℕ} {at : ℕ → ℕ → ℕ} {value : T → ℕ} (sound : (v : V) → ShowsElements b at value (shows v)) where
    -- A piece that was edited in its place has as many bits as its range.
    pub length-left : {view : Seen T} {piece left : V} {range : Range ℕ} → IsPieceOf view range (shows piece) → StaysInPlace shows named piece left → length (shows left).bits ≡ range.end - range.start
    length-left {view} {piece} {left} is stays = length-shown (sound left) ∙ ap (λ (w : Window). w.len) stays.window ∙ is.len

    module _ {before after : V} (stays : StaysInPlace shows named before after) where
      kept-outside : (take (shows before).window.start (shows after).memory ≡ take (shows before).window.start (shows before).memory)
          × (drop ((shows before).window.start + (shows before).window.len) (shows after).memory ≡ drop ((shows before).window.start + (shows before).window.len) (shows before).memory)
      unfolding outside_of
      kept-outside =
          let same = ap (λ (w : Window). (take w.start (shows after).memory, drop (w.start + w.len) (shows after).memory)) (sym stays.window) ∙ stays.outside in
          (ap (λ p. p.0) same, ap (λ p. p.1) same)

      same-window : IsWithin (shows before).window (length (shows after).memory)
      same-window = rw (sym stays.window) (shown-within (sound after))

      -- An edit in place leaves the memory as long as before.
      pub kept-length : length (shows after).memory ≡ length (shows before).memory
      kept-length =
          let behind = ap length kept-outside.1 in
          let old = shown-within (sound before) in
          let new = same-window in
          omega (arith, length-drop {A = Bool})

      -- An edit in place leaves the memory of before with the view's bits as they are now.
      pub kept-memory : (shows after).memory ≡ write_window (shows before).memory (shows before).window (shows after).bits
      unfolding window_of write_at
      kept-memory =
          let start = (shows before).window.start in
          let end = (shows before).window.start + (shows before).window.len in
          let new = same-window in
          let bits = shown-bits (sound after) in
          let kept = stays.window in
          let long : start + length (shows after).bits ≡ end = omega (arith, length-shown (sound after), ap (λ (w : Window). w.len) stays.window) in
          let outside = kept-outside in
          let same = write_at-same (shows after).memory start end (omega arith) (omega arith) in
          cc

    -- ---- a view that is narrowed, edited and put back

    -- A view that was narrowed to a range of itself is the piece of that range.
    pub piece-is : {view piece : V} (range : Range ℕ) → LiesIn (shows view).window.len range → StandsAt shows named view (window_range (shows view).window range.start range.end) piece → IsPieceOf (shows view) range (shows piece)
    piece-is {view} {piece} range lies stands =
        let place = window_range (shows view).window range.start range.end in
        let end : range.start + (range.end - range.start) ≡ range.end = omega arith in
        let old = shown-bits (sound view) in
        let new = shown-bits (sound piece) in
        let there = stands.window in
        let memory = stands.memory in
        let part = part-of_window (shows view).memory (shows view).window place range.start (shown-within (sound view)) refl (omega arith) in
        record { bits = cc; start = ap (λ (w : Window). w.start) stands.window; len = ap (λ (w : Window). w.len) stands.window }

    module _ {view piece left : V} {range : Range ℕ} {window : Window} (lies : LiesIn (shows view).window.len range) (narrowed : Narrows shows named view range window piece) (stays : StaysInPlace shows named piece left) where
      -- The window of the view before it was narrowed lies in the memory that the edit left.
      pub may-return : IsWithin window (length (shows left).memory)
      may-return = rw (narrowed.stood, kept-length stays, narrowed.stands.memory) (shown-within (sound view))

      -- A view that was narrowed, edited and widened again has the edited bits in its range and is else as before.
      pub returned : {after : V} → StandsAt shows named left window after → WritesInPlace shows named view after (write_at (shows view).bits range.start (shows left).bits)
      unfolding outside_of
      returned {after} back =
          let memory = (shows view).memory in
          let start = (shows view).window.start in
          let end = (shows view).window.start + (shows view).window.len in
          let place = window_range (shows view).window range.start range.end in
          let within = shown-within (sound view) in
          let view-long = length-shown (sound view) in
          let long = length-left narrowed.part stays in
          let new = write_at (shows view).bits range.start (shows left).bits in
          let all : length new ≡ (shows view).window.len = length-write_at (shows view).bits range.start (shows left).bits (omega arith) ∙ view-long in
          let kept = kept-memory stays in
          let stands = narrowed.stands in
          let there = stands.window in
          let same = stands.memory in
          let moved = back.memory in
          let bits = shown-bits (sound view) in
          let part = part-written memory (shows view).window place range.start (shows left).bits within refl (omega arith) in
          let now : (shows after).memory ≡ write_window memory (shows view).window new = cc in
          let again : (shows after).window ≡ (shows view).window = back.window ∙ narrowed.stood in
          let written = window-written memory (shows view).window new within all in
          let front = ap (λ (m : List Bool). take start m) now ∙ take-write_at memory start new within.start in
          let behind = ap (λ (m : List Bool). drop end m) now ∙ subst (λ (n : ℕ). drop (start + n) (write_at memory start new) ≡ drop (start + n) memory) all (drop-write_at memory start new within.start) in
          record {
            bits = shown-bits (sound after) ∙ ap (λ (w : Window). window_of (shows after).memory w) again ∙ ap (λ (m : List Bool). window_of m (shows view).window) now ∙ written;
            stays = record {
              outside = ap (λ (w : Window). (take w.start (shows after).memory, drop (w.start + w.len) (shows after).memory)) again
                  ∙ ap (λ (l : List Bool). (l, drop end (shows after).memory)) front ∙ ap (λ (l : List Bool). (take start memory, l)) behind;
              window = again;
              elements = back.elements ∙ stays.elements ∙ narrowed.stands.elements;
              name = back.name ∙ stays.name ∙ narrowed.stands.name;
            };
          }

    -- ---- a view of which the bits before an index were edited, and then those from it on

    module _ {view half piece left : V} {mid : ℕ} (bound : mid ≤ (shows view).window.len) (is : IsPieceOf (shows view) (range_of 0 mid) (shows piece)) (stays : StaysInPlace shows named piece left)
        (wrote : WritesInPlace shows named view half (write_at (shows view).bits 0 (shows left).bits)) where
      -- The bits behind `mid` of the view after its first half was edited are those of the view before.
      pub behind-is : {other : Seen T} → IsPieceOf (shows half) (range_of mid (shows view).window.len) other → IsPieceOf (shows view) (range_of mid (shows view).window.len) other
      behind-is other-is =
          let long = length-left is stays in
          let wide = length-shown (sound view) in
          piece-before _ wrote.stays (ap (λ (l : List Bool). slice_range l mid (shows view).window.len) wrote.bits ∙ range-write_at_after (shows view).bits 0 (shows left).bits mid _ (omega arith) (omega arith) (omega arith)) other-is

      -- Edits of a view's two halves, one after the other, write the view with the bits that they left, joined.
      pub halves-written : {other right after : V} → IsPieceOf (shows view) (range_of mid (shows view).window.len) (shows other) → StaysInPlace shows named other right
          → WritesInPlace shows named half after (write_at (shows half).bits mid (shows right).bits) → WritesInPlace shows named view after ((shows left).bits ++ (shows right).bits)
      halves-written {other} {right} other-is kept then =
          let long = length-left is stays in
          let rest = length-left other-is kept in
          let wide = length-shown (sound view) in
          let place : 0 + length (shows left).bits ≡ mid = omega arith in
          let next = write_at-next (shows view).bits 0 (shows left).bits (shows right).bits (omega arith) in
          let all = write_at-all (shows view).bits ((shows left).bits ++ (shows right).bits) (omega (arith, length-append (shows left).bits (shows right).bits)) in
          let first = wrote.bits in
          let second = then.bits in
          record { bits = cc; stays = stays-then wrote.stays then.stays }
