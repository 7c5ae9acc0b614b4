use Rattle.std.proofs.Common.{◌≡◌, ℕ, ◌*◌, ◌/◌, arith, ap, ◌∙◌}
use Rattle.std.proofs.lemmas.Bool.{eqb-true}
use Rattle.std.proofs.lemmas.Nat.{div-add-mod'}
use Rattle.bitvec_store.specs.WidthLaws.{width_some}
use Rattle.bitvec_cells.specs.Cost.{touched_count}
use Rattle.bitvec_words.specs.TouchedLaws.{touched-whole}
use Rattle.bitvec_segments.proofs.cutting.is_whole.Goals as goal

pub returns-then-phase-eq0-clause-touched : goal.returns-then-phase-eq0-clause-touched
returns-then-phase-eq0-clause-touched g c = λ is.
    let b = g.T.BitStore.BITS in
    let first : ℕ = c.args.window.start / b in
    let place = div-add-mod' c.args.window.start b in
    let start : c.args.window.start ≡ first * b = omega arith in
    let len : c.args.window.len ≡ c.args.count * b = eqb-true _ _ is ∙ ap (λ (n : ℕ). c.args.count * n) c.BITS.ensures in
    ap (λ (s : ℕ). touched_count b s c.args.window.len) start ∙ ap (touched_count b (first * b)) len ∙ touched-whole b first c.args.count (width_some _ g.met.T.BitStore.width_law)
