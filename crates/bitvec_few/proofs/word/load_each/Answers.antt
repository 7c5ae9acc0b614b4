use Rattle.std.proofs.Common.{◌≡◌, ◌-◌, arith, ap, refl, sym, ◌∙◌}
use Rattle.bitvec_base.specs.PartLaws.{element-none}
use Rattle.bitvec_base.specs.Parts.{first_part_of}
use Rattle.bitvec_store.specs.WidthLaws.{width_some}
use Rattle.bitvec_cells.specs.WalkLaws.{Walked-start, Walked-next, first-len, passed-none, touched-next, touched-none}
use Rattle.bitvec_words.specs.ShortWindow.{padded}
use Rattle.bitvec_words.specs.MovedLaws.{padded-none}
use Rattle.bitvec_words.specs.PartWalkLaws.{HasPart-first, word-next}
use Rattle.bitvec_few.proofs.word.load_each.Goals as goal

pub loop-rest-init : goal.loop-rest-init
loop-rest-init g c =
    let window = c.args.window in
    let none : window.start - window.start ≡ 0 = omega arith in
    let empty = touched-none g.C.Elem.BitStore.BITS window.start in
    record {
      walk = Walked-start _ _;
      value = element-none 64 g.O.BitOrder.at ∙ padded-none 64 ∙ ap (padded 64) (sym (passed-none _ _ _ window));
      reads = rw none (record { numbers = refl; borrow = refl; loads = omega arith; stores = refl });
    }

pub load-element-requires : goal.load-element-requires
load-element-requires g c =
    rw (c.first_part-part.ensures, c.loop-rest.invariant.reads.numbers) (HasPart-first (width_some _ g.met.C.Elem.BitStore.width_law) c.loop-rest-test.true c.requires.window c.loop-rest.invariant.walk).element

pub loop-rest-preserved : goal.loop-rest-preserved
loop-rest-preserved g c =
    let inv = c.loop-rest.invariant in
    let more = c.loop-rest-test.true in
    let head = c.first_part-part.ensures in
    let rest = c.loop-rest.rest in
    let some = width_some _ g.met.C.Elem.BitStore.width_law in
    let part = first_part_of g.C.Elem.BitStore.BITS rest in
    let len = first-len g.C.Elem.BitStore.BITS rest some more in
    let moved = rw (c.len.ensures, head) at c.moved-word.ensures in
    let loaded = rw (head, inv.reads.numbers) at c.load-element.ensures.value in
    let each = touched-next (part.to - part.from) some more (omega arith) (omega arith) inv.walk in
    rw (c.after-rest.ensures, c.len-in-loop-rest.ensures, head)
    (record {
      walk = Walked-next some more refl inv.walk;
      value = word-next _ _ _ _ _ _ _ _ _ _ some more c.requires.bound refl refl c.requires.window inv.walk loaded moved inv.value;
      reads = record { numbers = c.load-element.ensures.numbers ∙ inv.reads.numbers; borrow = c.load-element.ensures.borrow ∙ inv.reads.borrow; loads = omega arith; stores = c.load-element.ensures.stores ∙ inv.reads.stores };
    })

pub returns : goal.returns
returns g c =
    let all : c.loop-rest.rest.start - c.args.window.start ≡ c.args.window.len = omega arith in
    let inv = rw all at c.loop-rest.invariant in
    record { value = inv.value; reads = inv.reads }
