-- A window of at most an element's width that gets the first bits of an element. Its first element's part has t places,
-- and the next element gets the rest.
use Rattle.std.specs.Prelude.{◌≡◌, ℕ, ◌+◌, ◌-◌, ◌/◌, ◌<◌, ◌≤◌, Bool, List, ◌++◌, length, take, slice_range, refl}
use Rattle.std.proofs.Common.{arith, rules, ap, ◌∙◌}
use Rattle.std.proofs.lemmas.List.{same_lists, places}
use Rattle.std.proofs.lemmas.Nat.{div-add-mod', mod_below}
use Rattle.bitvec_base.specs.declared.part.Part.{Part}
use Rattle.bitvec_base.specs.declared.window.Window.{Window}
use Rattle.bitvec_base.specs.Lists.{shifted_end, shifted_start}
use Rattle.bitvec_base.specs.Memory.{HasWindow, Writes, element_bits}
use Rattle.bitvec_base.specs.MemoryLaws.{length-element_bits}
use Rattle.bitvec_base.specs.Parts.{first_part_of, part_window}
use Rattle.bitvec_base.specs.WritesLaws.{Writes-is, Writes-join}
use Rattle.bitvec_cells.specs.WalkLaws.{first-len}
use Rattle.bitvec_words.specs.FieldLaws.{range-shifted}
use Rattle.bitvec_words.specs.MovedLaws.{take-range}
use Rattle.bitvec_words.specs.WholeLaws.{Writes-same}

-- the bits of a list from the index n on, moved to its start
range-started : (list : List Bool) (n m e : ℕ) → n + e ≡ m → m ≤ length list → slice_range (shifted_start n list) 0 e ≡ slice_range list n m
unfolding shifted_start
range-started list n m e end inside = same_lists _ _ (search (rules, places)) (λ i d below. grind (arith, places))

module _ (b : ℕ) (at : ℕ → ℕ → ℕ) {old mid : List ℕ} (window : Window) (v : ℕ) {t : ℕ} (some : 0 < b) (more : 0 < window.len) (short : window.len ≤ b) (step : t ≡ (first_part_of b window).to - (first_part_of b window).from) (has : HasWindow b old window)
    (before : Writes b at old mid (part_window b (first_part_of b window)) (slice_range (shifted_end (first_part_of b window).from (element_bits b at v)) (first_part_of b window).from (first_part_of b window).to)) where
  abbrev bits : List Bool
  bits = element_bits b at v

  abbrev begin : Window
  begin = record { start = window.start; len = t }

  stored-first : Writes b at old mid begin (take t bits)
  stored-first =
      let part = first_part_of b window in
      let len = first-len b window some more in
      let wide = length-element_bits b at v in
      let place = div-add-mod' window.start b in
      Writes-is (Writes-same (part_window b part) begin (omega arith) step before)
      (range-shifted bits part.from t part.to (omega arith) (omega arith))

  pub stored-one : window.len ≤ t → Writes b at old mid window (take window.len bits)
  stored-one all =
      let len = first-len b window some more in
      let same : t ≡ window.len = omega arith in
      rw same at stored-first

  pub stored-two : {new : List ℕ} → t < window.len
      → Writes b at mid new (part_window b (record { element = window.start / b + 1; from = 0; to = window.len - t })) (slice_range (shifted_start t bits) 0 (window.len - t))
      → Writes b at old new window (take window.len bits)
  stored-two {new} left after =
      let tail : Part = record { element = window.start / b + 1; from = 0; to = window.len - t } in
      let len = first-len b window some more in
      let wide = length-element_bits b at v in
      let place = div-add-mod' window.start b in
      let below = mod_below window.start b some in
      Writes-is
      (Writes-join has refl (omega arith) (omega arith) stored-first after)
      (ap (λ (l : List Bool). take t bits ++ l) (range-started bits t window.len (window.len - t) (omega arith) (omega arith))
      ∙ take-range bits t window.len window.len (omega arith) (omega arith) refl)
