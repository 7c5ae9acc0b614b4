use Rattle.std.proofs.Common.{◌≡◌, ℕ, arith, rules, ap, sym, ◌∙◌, slice_range}
use Rattle.bitvec_base.specs.Memory.{element_bits}
use Rattle.bitvec_base.specs.PartLaws.{element-none}
use Rattle.bitvec_base.specs.SliceLaws.{range-none}
use Rattle.bitvec_words.specs.ShortWindow.{padded}
use Rattle.bitvec_words.specs.MovedLaws.{padded-none}
use Rattle.bitvec_words.proofs.FrontLemmas.{gathered-none, gathered-one}
use Rattle.bitvec_words.proofs.fronts.gathered.Goals as goal
use Rattle.bitvec_words.proofs.fronts.gathered.Goals.{then-to_u128-ne0, else-to_u128-ne0}

pub loop-index-init : goal.loop-index-init
loop-index-init g c = element-none 64 g.P.BitOrder.at ∙ padded-none 64 ∙ ap (padded 64) (sym (range-none _ c.args.part.from c.args.part.from (omega arith)))

pub loop-index-preserved : goal.loop-index-preserved
loop-index-preserved g c =
    let b = g.T.BitStore.BITS in
    let at = g.O.BitOrder.at in
    let to = g.P.BitOrder.at in
    let i = c.loop-index.index in
    let is = rw c.select.ensures at (c.to_u128.ensures.number ∙ c.and.ensures) in
    elim c.if-to_u128-ne0.branch [
      | then-to_u128-ne0 w ↦ rw (w.word-is, w.select-word.ensures) (gathered-one b 64 at to _ c.loop-index.word c.args.part.from i _ c.loop-index.auto.index (omega arith) (omega arith) is c.loop-index.invariant (g.met.P.BitOrder.permutes 64 (search rules)) w.if-to_u128-ne0.true)
      | else-to_u128-ne0 w ↦ rw w.word-is (gathered-none b 64 at to _ c.loop-index.word c.args.part.from i _ c.loop-index.auto.index (omega arith) (omega arith) is c.loop-index.invariant w.if-to_u128-ne0.false)
    ]

pub returns : goal.returns
returns g c =
    let all : c.loop-index.index ≡ c.args.part.to = omega arith in
    c.loop-index.invariant ∙ ap (λ (n : ℕ). padded 64 (slice_range (element_bits g.T.BitStore.BITS g.O.BitOrder.at (g.T.BitStore.value c.args.element)) c.args.part.from n)) all
