-- What the act that copies leaves of a window, of a window cut in two, and of an element.
use Rattle.std.specs.Prelude.{◌≡◌, ℕ, ◌+◌, ◌-◌, ◌*◌, ◌<◌, ◌≤◌, List, Bool, [], ◌++◌, refl}
use Rattle.std.proofs.Common.{arith, rules}
use Rattle.std.proofs.lemmas.List.{length-set}
use Rattle.std.proofs.lemmas.Nat.{mod-mul-add}
use Rattle.bitvec_base.specs.declared.part.Part.{Part}
use Rattle.bitvec_base.specs.declared.window.Window.{Window}
use Rattle.bitvec_base.specs.Memory.{HasWindow}
use Rattle.bitvec_base.specs.MemoryLaws.{length-element_bits, set-element}
use Rattle.bitvec_base.specs.Parts.{part_window}
use Rattle.bitvec_base.specs.Spans.{HasSpan}
use Rattle.bitvec_base.specs.WritesLaws.{Writes-empty, Writes-is, Writes-join, length-list}
use Rattle.bitvec_cells.specs.declared.cells.CellsRead.{Ghosts as Access}
use Rattle.bitvec_store.specs.Width.{IsWidth}
use Rattle.bitvec_store.specs.WidthLaws.{width_some}
use Rattle.bitvec_cells.specs.Cost.{part_loads}
use Rattle.bitvec_words.specs.TouchedLaws.{touched-edge, touched-first}
use Rattle.bitvec_combine.specs.Acts.{IsCut, PutsBits, bits_beside, inside_edges}
use Rattle.bitvec_words.specs.WordLaws.{padded-all}
use Rattle.bitvec_words.specs.Moves.{Copies}

-- ---- the laws of the act

-- Putting no bits in an empty window changes nothing.
pub Puts-none : {E C : Type 0} (access : Access C E) (b : ℕ) (at : ℕ → ℕ → ℕ) (c : C) (window : Window) → HasWindow b (access.numbers c) window → window.len ≡ 0 → PutsBits access b at c c window []
Puts-none access b at c window has none = record {
  writes = Writes-empty _ _ has none refl;
  cost = search rules;
}

-- Putting bits in the two windows that a window is cut into, one after the other, puts their lists joined in the whole window.
pub Puts-join : {E C : Type 0} (access : Access C E) (b : ℕ) (at : ℕ → ℕ → ℕ) (c d e : C) (whole first second : Window) (list other : List Bool) → IsWidth b → HasWindow b (access.numbers c) whole → IsCut b whole first second
    → PutsBits access b at c d first list → PutsBits access b at d e second other → PutsBits access b at c e whole (list ++ other)
Puts-join access b at c d e whole first second list other width has cut before after = record {
  writes = Writes-join has cut.start cut.next cut.len before.writes after.writes;
  cost = rw cut.len (grind (arith, touched-edge b whole.start first.len second.len (width_some b width)));
}

-- ---- a part of an element

-- A part of an element needs at most as many loads as it has edges inside the element.
pub part-edges : (b : ℕ) (part : Part) → part.from < part.to → part.to ≤ b → part_loads b part ≤ inside_edges b (part_window b part)
part-edges b part some bound =
    let end : part.element * b + part.from + (part.to - part.from) ≡ part.element * b + part.to = omega arith in
    rw end (grind (arith, mod-mul-add part.element b part.from, mod-mul-add part.element b part.to))

-- These laws bound the loads and stores of an act that puts bits in a window.
pub ruleset stored = (part-edges, set-element, length-element_bits, length-set, width_some, touched-first)

-- ---- two windows as long

-- Putting the bits of the window beside in a window as long copies them.
pub Puts-beside : {E C : Type 0} {access : Access C E} {b : ℕ} {at : ℕ → ℕ → ℕ} {c d : C} {ys : List ℕ} {left right other : Window} → HasSpan b (access.numbers c) ys left right → other ≡ right
    → PutsBits access b at c d left (bits_beside b at ys left other) → Copies b at (access.numbers c) (access.numbers d) left ys right
Puts-beside {E} {C} {access} {b} {at} {c} {d} {ys} {left} {right} span is puts =
    Writes-is puts.writes (rw (is, span.lengths) (padded-all (length-list at span.beside)))
