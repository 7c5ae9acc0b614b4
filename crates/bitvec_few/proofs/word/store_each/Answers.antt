use Rattle.std.proofs.Common.{◌≡◌, ℕ, ◌-◌, arith, rules, ap, refl, sym, take, ◌∙◌}
use Rattle.bitvec_base.specs.Memory.{element_bits}
use Rattle.bitvec_base.specs.Parts.{first_part_of}
use Rattle.bitvec_base.specs.WritesLaws.{HasWindow-kept, Writes-is}
use Rattle.bitvec_store.specs.WidthLaws.{width_some}
use Rattle.bitvec_cells.specs.WalkLaws.{Walked-start, Walked-next, Writes-none_passed, edge_loads-next, first-len, touched-next}
use Rattle.bitvec_words.specs.PartWalkLaws.{HasPart-first, Writes-next_field}
use Rattle.bitvec_few.proofs.word.store_each.Goals as goal

pub loop-rest-init : goal.loop-rest-init
loop-rest-init g c =
    let none : c.args.window.start - c.args.window.start ≡ 0 = omega arith in
    record {
      walk = Walked-start _ _;
      writes = Writes-is (Writes-none_passed c.requires.window) (ap (λ (n : ℕ). take n (element_bits 64 g.O.BitOrder.at c.args.word)) (sym none));
      cost = search rules;
    }

pub store_part-requires : goal.store_part-requires
store_part-requires g c =
    let inv = c.loop-rest.invariant in
    rw c.first_part-part.ensures (HasPart-first (width_some _ g.met.C.Elem.BitStore.width_law) c.loop-rest-test.true (HasWindow-kept _ c.requires.window inv.writes.elements) inv.walk)

pub loop-rest-preserved : goal.loop-rest-preserved
loop-rest-preserved g c =
    let inv = c.loop-rest.invariant in
    let more = c.loop-rest-test.true in
    let head = c.first_part-part.ensures in
    let b = g.C.Elem.BitStore.BITS in
    let rest = c.loop-rest.rest in
    let some = width_some _ g.met.C.Elem.BitStore.width_law in
    let part = first_part_of b rest in
    let len = first-len b rest some more in
    let edges = edge_loads-next (part.to - part.from) some more refl inv.walk in
    let each = touched-next (part.to - part.from) some more (omega arith) (omega arith) inv.walk in
    let moved = rw (c.len.ensures, head) at c.moved-element.ensures in
    let ensures = rw head at c.store_part.ensures in
    rw (c.after-rest.ensures, c.len-in-loop-rest.ensures, head)
    (record {
      walk = Walked-next some more refl inv.walk;
      writes = Writes-next_field _ _ some more c.requires.bound refl refl c.requires.window inv.walk moved inv.writes ensures.writes;
      cost = record { borrow = ensures.cost.borrow ∙ inv.cost.borrow; loads = omega arith; stores = omega arith };
    })

pub returns-clause-writes : goal.returns-clause-writes
returns-clause-writes g c =
    let all : c.loop-rest.rest.start - c.args.window.start ≡ c.args.window.len = omega arith in
    rw all at c.loop-rest.invariant.writes
