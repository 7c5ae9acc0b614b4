-- The bits of what a view is cut into, one part after the other, are the view's.
use Rattle.std.specs.Prelude.{◌≡◌, ℕ, ◌+◌, ◌-◌, ◌*◌, ◌<◌, ◌≤◌, Bool, List, [], Option, None, Some, IfSome, drop, length, map, slice_range, take, refl}
use Rattle.std.proofs.Common.{arith, rules, ◌∙◌, ap}
use Rattle.std.proofs.lemmas.List.{places, same_lists}
use Rattle.std.proofs.lemmas.Option.{IfSome_then}
use Rattle.bitvec_base.specs.Memory.{list_in, memory_bits}
use Rattle.bitvec_base.specs.MemoryLaws.{element_fits, length-memory_bits, memory-range}
use Rattle.bitvec_base.specs.Parts.{part_window}
use Rattle.bitvec_base.specs.SliceLaws.{range-all, range-map, range-none, range-same}
use Rattle.bitvec_base.specs.Window.{max_bits, window_of}
use Rattle.bitvec_base.specs.WriteLaws.{length-slice_range, range-range}
use Rattle.bitvec_base.specs.declared.part.Part.{Part}
use Rattle.bitvec_domain.specs.CutLaws.{cut_bits, cut_is, part_bits_if, pieces-bits}
use Rattle.bitvec_domain.specs.Cuts.{IsCutWithin, IsHeadWithin, IsPartWithin, IsTailWithin, cut_of, part_if_from}
use Rattle.bitvec_domain.specs.Domains.{DomainPieces, bits_of_pieces, pieces_in}
use Rattle.bitvec_domain.specs.declared.cut.Cut.{Cut}
use Rattle.bitvec_domain.specs.declared.cut.Cut.TheVariants.{Inside, Across}
use Rattle.bitvec_store.specs.Width.{IsWidth}
use Rattle.bitvec_store.specs.WidthLaws.{width_some}
use Rattle.bitvec_slice.specs.Domains.{IsBitDomain, IsDomain, Views, bits_of_views, view_in, view_in_if, views_in}
use Rattle.bitvec_slice.specs.Seen.{shown}
use Rattle.bitvec_slice.specs.SeenLaws.{has_window}

module _ {T : Type 0} (b : ℕ) (at : ℕ → ℕ → ℕ) (value : T → ℕ) (elements : List T) where
  -- the bits of a part, among those of its element
  view-bits : (part : Part) → 0 < b → IsPartWithin b (length (map value elements)) part → (view_in b at value elements part).bits ≡ list_in b at (map value elements) (part_window b part)
  unfolding window_of
  view-bits part some within =
      let ys = map value elements in
      let memory = memory_bits b at ys in
      let there = within.element in
      let order = within.order in
      let bound = within.bound in
      let whole = length-memory_bits b at ys in
      let fits = element_fits b part.element (length ys) there in
      ap (λ (zs : List ℕ). slice_range (memory_bits b at zs) part.from (part.from + (part.to - part.from))) (range-map value elements part.element (part.element + 1))
      ∙ ap (λ (l : List Bool). slice_range l part.from (part.from + (part.to - part.from))) (memory-range b at ys part.element (part.element + 1) some (omega arith) (omega arith))
      ∙ range-range memory (part.element * b) ((part.element + 1) * b) part.from (part.from + (part.to - part.from)) (omega arith) (omega arith)
      ∙ range-same memory _ _ _ _ refl (omega arith)

  view_if-bits : (part : Option Part) → 0 < b → IfSome part (IsPartWithin b (length (map value elements))) → (view_in_if b at value elements part).bits ≡ part_bits_if b at (map value elements) part
  unfolding window_of
  view_if-bits None some within = range-none (memory_bits b at []) 0 (0 + 0) (omega arith)
  view_if-bits (Some part) some within = view-bits part some within

  -- all bits of some of the elements
  body-bits : (start end : ℕ) → end ≤ length (map value elements) → (shown b at value (slice_range elements start end) 0 (b * (end - start))).bits ≡ memory_bits b at (slice_range (map value elements) start end)
  unfolding window_of
  body-bits start end within =
      let memory = memory_bits b at (slice_range (map value elements) start end) in
      let long = length-memory_bits b at (slice_range (map value elements) start end) ∙ ap (λ (n : ℕ). b * n) (length-slice_range (map value elements) start end within) in
      ap (λ (zs : List ℕ). slice_range (memory_bits b at zs) 0 (0 + b * (end - start))) (range-map value elements start end) ∙ range-all memory (0 + b * (end - start)) (omega arith)

  views-bits : (c : Cut) → 0 < b → IsCutWithin b (length (map value elements)) c → bits_of_views (views_in b at value elements c) ≡ cut_bits b at (map value elements) c
  views-bits (Inside part) some within = view-bits part some within
  views-bits (Across before start end after) some within =
      rw (view_if-bits before some (IfSome_then before within.0 (λ part is. is.within)), body-bits start end within.2, view_if-bits after some (IfSome_then after within.3 (λ part is. is.within))) refl

  -- what a view is cut into, as views and as pieces of elements
  module _ (start len : ℕ) (wide : IsWidth b) (inside : start + len ≤ b * length elements) (bounded : b * length elements ≤ max_bits) where
    pub bit_domain_shown : (views : Views T) → views ≡ views_in b at value elements (cut_of b (shown b at value elements start len).window) → IsBitDomain b at value (shown b at value elements start len) views
    bit_domain_shown views is =
        let window = (shown b at value elements start len).window in
        let cut = cut_is b at (map value elements) window (width_some b wide) (has_window b at value elements start len inside bounded) in
        record { parts = is; bits = ap bits_of_views is ∙ views-bits (cut_of b window) (width_some b wide) cut.within ∙ cut.bits }

    pub domain_shown : (pieces : DomainPieces T) → pieces ≡ pieces_in b at value elements (cut_of b (shown b at value elements start len).window) → IsDomain b at value (shown b at value elements start len) pieces
    domain_shown pieces is =
        record { parts = is; bits = ap (bits_of_pieces b at value) is ∙ pieces-bits b at value elements (shown b at value elements start len).window (width_some b wide) (has_window b at value elements start len inside bounded) }

  -- the head among the elements before the whole ones, the elements between, and the tail among those behind them
  pub head_view : (start end : ℕ) (part : Option Part) → start ≤ end → end ≤ length elements → IfSome part (IsHeadWithin b (length elements) start)
      → view_in_if b at value (take start (take end elements)) (part_if_from 0 part) ≡ view_in_if b at value elements part
  head_view start end None order bound is = refl
  head_view start end (Some part) order bound is =
      let next = is.next in
      ap (λ (zs : List T). shown b at value zs part.from (part.to - part.from)) (same_lists _ _ (search (rules, places)) (λ k d inside. grind (arith, places)))

  pub tail_view : (end : ℕ) (part : Option Part) → IfSome part (IsTailWithin b (length elements) end) → view_in_if b at value (drop end elements) (part_if_from end part) ≡ view_in_if b at value elements part
  tail_view end None is = refl
  tail_view end (Some part) is =
      let next = is.next in
      let there = is.within.element in
      ap (λ (zs : List T). shown b at value zs part.from (part.to - part.from)) (same_lists _ _ (search (rules, places)) (λ k d inside. grind (arith, places)))
