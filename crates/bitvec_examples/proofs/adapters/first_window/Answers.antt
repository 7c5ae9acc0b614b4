use Rattle.std.proofs.Common.{◌≡◌, ℕ, ◌∙◌, Bool, None, Option, Some, ap, arith, false, length, rules, sym}
use Rattle.std.specs.Prelude.{IfSome, slice_index_or, ⊤}
use Rattle.std.specs.List.{list_any}
use Rattle.std.specs.Option.{MatchOption}
use Rattle.std.proofs.lemmas.Iterator.{IsFirst-from_position}
use Rattle.bitvec.specs.Cutting.{window, window_count}
use Rattle.bitvec.specs.PartsLaws.{get-parts, length-parts, pieces_yield}
use Rattle.bitvec.specs.PieceParts.{subview}
use Rattle.bitvec.specs.Views.{seen}
use Rattle.bitvec_examples.proofs.adapters.first_window.Goals as goal

found : {Q R : ℕ → Type 0} (P : Type 0) (r : Option ℕ) → MatchOption r P Q → ((i : ℕ) → Q i → R i) → IfSome r R
found P None told then = tt
found P (Some i) told then = then i told

pub returns-clause-inside : goal.returns-clause-inside
returns-clause-inside g c =
    let b : ℕ = g.T.BitStore.BITS in
    let size : ℕ = c.args.size in
    let many = ap length c.windows.ensures.pieces ∙ length-parts b (seen c.args.bits) (window_count size) (window size) in
    found _ c.position.result
    (IsFirst-from_position _ _ c.position.result (λ piece. list_any (λ (bit : Bool). bit) piece.bits ≡ false) (λ piece. ⊤) c.position.ensures.ran (pieces_yield c.windows.result)
    (λ x q k. search rules) (λ x q k. search rules))
    (λ i told. let below = told.0 in omega (arith, many))

pub returns-clause-zeros : goal.returns-clause-zeros
returns-clause-zeros g c =
    let b : ℕ = g.T.BitStore.BITS in
    let size : ℕ = c.args.size in
    let view = seen c.args.bits in
    let many = ap length c.windows.ensures.pieces ∙ length-parts b view (window_count size) (window size) in
    let none = subview b view (window size view.window.len 0) in
    found _ c.position.result
    (IsFirst-from_position _ _ c.position.result (λ piece. list_any (λ (bit : Bool). bit) piece.bits ≡ false) (λ piece. ⊤) c.position.ensures.ran (pieces_yield c.windows.result)
    (λ x q k. search rules) (λ x q k. search rules))
    (λ i told.
    let below = told.0 in
    let at = ap (λ l. slice_index_or l i none) c.windows.ensures.pieces ∙ get-parts b view (window_count size) (window size) i none (omega (arith, many)) in
    ap (λ piece. list_any (λ (bit : Bool). bit) piece.bits) (sym at) ∙ told.1 none)
