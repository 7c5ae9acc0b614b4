use Rattle.std.proofs.Common.{◌+◌, ◌≤◌, ◌<◌, ◌∙◌, [], arith, refl, sym, subst}
use Rattle.bitvec_slice.specs.Seen.{Seen}
use Rattle.bitvec_owned.proofs.Added.{Held, first-bit, held-added, held-more, held-none}
use Rattle.bitvec_owned.specs.Owned.{bit_capacity, owned}
use Rattle.bitvec_owned.proofs.growing.walking.BitVecExtendBool.extend.Goals.{then-held-room+in_ok-reserve, else-held-room}
use Rattle.bitvec_owned.proofs.growing.walking.BitVecExtendBool.extend.Goals as goal

pub loop-bit-init : goal.loop-bit-init
loop-bit-init g c =
    let now = owned c.args.self.now in
    record {
      few = omega arith;
      bound = c.room_in_word-room.ensures.bound;
      there = c.room_in_word-room.ensures.room;
      capacity = omega arith;
      held = held-none g.T.BitStore.BITS now now [] 0 0;
    }

pub loop-bit-preserved : goal.loop-bit-preserved
loop-bit-preserved g c =
    let b = g.T.BitStore.BITS in
    let inv = c.loop-bit.invariant in
    let first = owned c.args.self.now in
    let list = c.loop-bit.yielded in
    let word = c.loop-bit.word in
    let joins : (c.if-held-room.held < c.if-held-room.room) × (c.if-held-room.room ≤ 64) × ((owned c.if-held-room.self).window.len + c.if-held-room.room ≤ bit_capacity c.if-held-room.self)
    × Held b first (owned c.if-held-room.self) list word c.if-held-room.held × (bit_capacity c.args.self.now ≤ bit_capacity c.if-held-room.self) =
    elim c.if-held-room.branch [
      | then-held-room+in_ok-reserve w ↦
          let flushed = held-added b first (owned c.loop-bit.self) list word c.loop-bit.held (owned w.extend_from_word.new.self) inv.held w.extend_from_word.ensures.bits w.extend_from_word.ensures.around in
          let room = w.room_in_word-room-then-held-room.ensures in
          rw (w.self-is, w.held-is, w.room-is)
          (room.some w.in_ok-reserve.ensures.ok, room.bound, room.room, subst (λ (s : Seen g.row.T.Denot). Held b first s list word 0) (sym w.in_ok-reserve.ensures.same) flushed, omega arith)
      | else-held-room w ↦
          let differ = w.if-held-room.false in
          let few : c.loop-bit.held < c.loop-bit.room = grind arith in
          rw (w.self-is, w.held-is, w.room-is) (few, inv.bound, inv.there, inv.held, inv.capacity)
    ] in
    let few = joins.0 in
    let bound = joins.1 in
    record {
      few = omega arith;
      bound = bound;
      there = joins.2;
      capacity = joins.4;
      held = held-more b first (owned c.if-held-room.self) list word c.if-held-room.held c.joined-word.result c.from.result c.in-Some.bit joins.3 (omega arith) c.joined-word.ensures
          (first-bit c.in-Some.bit c.from.result (λ is. c.from.ensures ∙ rw is refl) (λ is. c.from.ensures ∙ rw is refl));
    }
