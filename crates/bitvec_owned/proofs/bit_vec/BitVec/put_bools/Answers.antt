use Rattle.std.proofs.Common.{◌+◌, ◌≤◌, ◌<◌, ◌∙◌, ◌≡◌, ◌++◌, ◌∷◌, [], Bool, List, ap, arith, false, length-take, refl, subst, sym, slice_index_or, take}
use Rattle.std.proofs.lemmas.List.{take_all, take_more}
use Rattle.bitvec_store.specs.WidthLaws.{width_some}
use Rattle.bitvec_owned.proofs.Added.{Held, first-bit, held-added, held-all, held-long, held-more, held-none}
use Rattle.bitvec_owned.specs.Owned.{bit_capacity, owned}
use Rattle.bitvec_owned.specs.WritesLaws.{length-owned}
use Rattle.bitvec_owned.proofs.bit_vec.BitVec.put_bools.Goals.{then-held-eq64, else-held-eq64}
use Rattle.bitvec_owned.proofs.bit_vec.BitVec.put_bools.Goals as goal

pub loop-bit-init : goal.loop-bit-init
loop-bit-init g c =
    let now = owned c.args.self.now in
    record { few = omega arith; capacity = omega arith; held = held-none g.T.BitStore.BITS now now [] 0 0 }

pub extend_from_word-requires-clause-room : goal.extend_from_word-requires-clause-room
extend_from_word-requires-clause-room g c =
    let some = width_some _ g.met.T.BitStore.width_law in
    let inv = c.loop-bit.invariant in
    let bools = c.args.bools.now in
    let was = length-owned some c.args.self.now in
    let now = length-owned some c.loop-bit.self in
    let sum = held-long g.T.BitStore.BITS (owned c.args.self.now) (owned c.loop-bit.self) (take c.loop-bit.bit-index bools) c.loop-bit.word c.loop-bit.held inv.held inv.few in
    let few = length-take c.loop-bit.bit-index bools in
    omega arith

pub extend_from_word-requires-2-clause-room : goal.extend_from_word-requires-2-clause-room
extend_from_word-requires-2-clause-room g c =
    let some = width_some _ g.met.T.BitStore.width_law in
    let inv = c.loop-bit.invariant in
    let bools = c.args.bools.now in
    let was = length-owned some c.args.self.now in
    let now = length-owned some c.loop-bit.self in
    let sum = held-long g.T.BitStore.BITS (owned c.args.self.now) (owned c.loop-bit.self) (take c.loop-bit.bit-index bools) c.loop-bit.word c.loop-bit.held inv.held inv.few in
    let few = length-take c.loop-bit.bit-index bools in
    omega arith

pub loop-bit-preserved : goal.loop-bit-preserved
loop-bit-preserved g c =
    let b = g.T.BitStore.BITS in
    let inv = c.loop-bit.invariant in
    let first = owned c.args.self.now in
    let bools = c.args.bools.now in
    let index = c.loop-bit.bit-index in
    let list = take index bools in
    let word = c.loop-bit.word in
    let joins : (c.if-held-eq64.held < 64) × Held b first (owned c.if-held-eq64.self) list word c.if-held-eq64.held × (bit_capacity c.args.self.now ≤ bit_capacity c.if-held-eq64.self) =
    elim c.if-held-eq64.branch [
      | then-held-eq64 w ↦
          let flushed = held-added b first (owned c.loop-bit.self) list word c.loop-bit.held (owned w.extend_from_word.new.self) inv.held w.extend_from_word.ensures.bits w.extend_from_word.ensures.around in
          rw (w.self-is, w.held-is) (omega arith, flushed, omega arith)
      | else-held-eq64 w ↦
          let differ = w.if-held-eq64.false in
          let few : c.loop-bit.held < 64 = grind arith in
          rw (w.self-is, w.held-is) (few, inv.held, inv.capacity)
    ] in
    let few = joins.0 in
    let bit = slice_index_or bools index false in
    let next : take (index + 1) bools ≡ list ++ bit ∷ [] = take_more bools index false c.loop-bit-test.true in
    record {
      few = omega arith;
      capacity = joins.2;
      held = subst (λ (l : List Bool). Held b first (owned c.if-held-eq64.self) l c.joined-word.result (c.if-held-eq64.held + 1)) (sym next)
          (held-more b first (owned c.if-held-eq64.self) list word c.if-held-eq64.held c.joined-word.result c.from.result bit joins.1 few c.joined-word.ensures
          (first-bit bit c.from.result (λ is. c.from.ensures ∙ rw is refl) (λ is. c.from.ensures ∙ rw is refl)));
    }

pub returns : goal.returns
returns g c =
    let b = g.T.BitStore.BITS in
    let inv = c.loop-bit.invariant in
    let first = owned c.args.self.now in
    let bools = c.args.bools.now in
    let list = take c.loop-bit.bit-index bools in
    let last = c.extend_from_word-2.ensures in
    let flushed = held-added b first (owned c.loop-bit.self) list c.loop-bit.word c.loop-bit.held (owned c.extend_from_word-2.new.self) inv.held last.bits last.around in
    let added = held-all b first (owned c.extend_from_word-2.new.self) list c.loop-bit.word 0 flushed in
    record {
      bits = added.0 ∙ ap (λ (l : List Bool). first.bits ++ l) (take_all c.loop-bit.bit-index bools c.loop-bit-test.false);
      around = added.1;
      capacity = omega arith;
    }
