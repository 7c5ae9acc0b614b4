use Rattle.std.proofs.Common.{◌≡◌, ◌-◌, ap, refl, sym, ◌∙◌}
use Rattle.bitvec_base.specs.declared.part.Part.{Part}
use Rattle.bitvec_base.specs.PartLaws.{element-none}
use Rattle.bitvec_base.specs.Parts.{first_part_of}
use Rattle.bitvec_store.specs.WidthLaws.{width_some}
use Rattle.bitvec_cells.specs.WalkLaws.{Walked-start, Walked-next, first-len, passed-none}
use Rattle.bitvec_words.specs.ShortWindow.{padded}
use Rattle.bitvec_words.specs.MovedLaws.{padded-none}
use Rattle.bitvec_passes.proofs.WordLemmas.{gathered-next}
use Rattle.bitvec_elements.proofs.window_words.gathered_word.Goals as goal

pub loop-rest-init : goal.loop-rest-init
loop-rest-init g c = record {
  walk = Walked-start _ _;
  numbers = c.new-cells.ensures.numbers;
  value = element-none 64 g.W.BitOrder.at ∙ padded-none 64 ∙ ap (padded 64) (sym (passed-none _ _ _ c.args.window));
}

pub loop-rest-preserved : goal.loop-rest-preserved
loop-rest-preserved g c =
    let inv = c.loop-rest.invariant in
    let more = c.loop-rest-test.true in
    let b = g.T.BitStore.BITS in
    let window = c.args.window in
    let rest = c.loop-rest.rest in
    let some = width_some _ g.met.T.BitStore.width_law in
    let part : c.first_part-part.result ≡ first_part_of b rest = c.first_part-part.ensures in
    let step = c.len-count.ensures ∙ ap (λ (p : Part). p.to - p.from) part in
    let len = first-len b rest some more in
    let loaded = rw (part, inv.numbers) at c.load-element.ensures.value in
    let first = rw part at c.gathered_part-first.ensures in
    let start = inv.walk.start in
    rw c.after-rest.ensures (record {
      walk = Walked-next some more step inv.walk;
      numbers = c.load-element.ensures.numbers ∙ inv.numbers;
      value = gathered-next _ _ _ _ _ some more c.requires.bound step refl c.requires.window inv.walk loaded first c.moved-word.ensures inv.value;
    })
