-- A view of all bits of some elements that stays in its place is one of all bits of those that it has then.
use Rattle.std.specs.Prelude.{◌≡◌, ℕ, ◌*◌, List, length, refl}
use Rattle.std.specs.Borrow.{GName}
use Rattle.std.proofs.Common.{sym, ◌∙◌, ap}
use Rattle.bitvec_base.specs.declared.window.Window.{Window}
use Rattle.bitvec_slice.specs.Seen.{IsWhole, Seen}
use Rattle.bitvec_slice.specs.SeenLaws.{covered_bits}
use Rattle.bitvec_slice.specs.Showing.{ShowsElements}
use Rattle.bitvec_closures.specs.InPlace.{StaysInPlace}

module _ {V T : Type 0} {shows : V → Seen T} {named : V → GName} {b : ℕ} {at : ℕ → ℕ → ℕ} {value : T → ℕ} (sound : (v : V) → ShowsElements b at value (shows v)) {elements : List T} {piece left : V}
    (is : IsWhole b at value elements (shows piece)) (stays : StaysInPlace shows named piece left) where
  pub length-whole : length (shows left).elements ≡ length elements
  length-whole = stays.elements ∙ ap length is.elements

  pub whole-left : IsWhole b at value (shows left).elements (shows left)
  whole-left =
      let start : (shows left).window.start ≡ 0 = ap (λ (w : Window). w.start) stays.window ∙ is.start in
      let len : (shows left).window.len ≡ b * length (shows left).elements = ap (λ (w : Window). w.len) stays.window ∙ is.len ∙ ap (λ (n : ℕ). b * n) (sym length-whole) in
      record {
        bits = (sound left).bits ∙ sym (covered_bits b at value (shows left).elements (shows left).window.start (shows left).window.len (record { start = start; len = len }));
        elements = refl;
        memory = (sound left).memory;
        start = start;
        len = len;
      }
