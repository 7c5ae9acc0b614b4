use Rattle.std.proofs.Common.{◌≡◌, ◌-◌, ◌+◌, ◌/◌, ◌≤◌, ◌∙◌, arith, length, sym, take, vec_capacity}
use Rattle.std.specs.Int.{div_ceil}
use Rattle.std.proofs.lemmas.List.{append-nil, take_all}
use Rattle.bitvec_base.specs.Window.{max_bits}
use Rattle.bitvec_store.specs.WidthLaws.{width_some}
use Rattle.bitvec_owned.proofs.Rooms.{few-fit, next-touched, past-next, refused, same-touched, touched-inside, usable-more}
use Rattle.bitvec_owned.proofs.growing.elements.make_room_for_bit.Goals as goal

pub returns-then-phase_of-ne0 : goal.returns-then-phase_of-ne0
returns-then-phase_of-ne0 g c =
    let b = g.T.BitStore.BITS in
    let some = width_some _ g.met.T.BitStore.width_law in
    let old = c.args.elements.now in
    let touched = c.requires.touched ∙ sym (same-touched b some c.args.end (rw c.phase_of.ensures at c.if-phase_of-ne0.true)) in
    let none : div_ceil (c.args.end + 1) b - old.len ≡ 0 = omega arith in
    let inside = touched-inside b some (c.args.end + 1) old.len touched in
    let all : length old.items ≤ div_ceil (c.args.end + 1) b = omega (arith, old.ok.0) in
    record {
      items = rw none (sym (append-nil (take (div_ceil (c.args.end + 1) b) old.items) ∙ take_all (div_ceil (c.args.end + 1) b) old.items all));
      len = touched;
      fits = c.requires.bounded;
      inside = omega arith;
      full = tt;
      capacity = omega arith;
    }

pub returns-then-len-most_elements-clause-full : goal.returns-then-len-most_elements-clause-full
returns-then-len-most_elements-clause-full g c =
    past-next g.T.BitStore.BITS (width_some _ g.met.T.BitStore.width_law) c.args.end (vec_capacity c.args.elements.now) (sym c.phase_of.ensures ∙ c.if-phase_of-ne0.false) (omega arith)

pub returns-in_err-push-clause-full : goal.returns-in_err-push-clause-full
returns-in_err-push-clause-full g c =
    let past = c.in_err-push.ensures.full in
    refused c.from_residual.result (past-next g.T.BitStore.BITS (width_some _ g.met.T.BitStore.width_law) c.args.end (vec_capacity c.args.elements.now) (sym c.phase_of.ensures ∙ c.if-phase_of-ne0.false) (omega arith))

pub returns-in_err-push-clause-capacity : goal.returns-in_err-push-clause-capacity
returns-in_err-push-clause-capacity g c = usable-more g.T.BitStore.BITS (width_some _ g.met.T.BitStore.width_law) (vec_capacity c.args.elements.now) (vec_capacity c.push.new.self) c.push.ensures.capacity

pub returns : goal.returns
returns g c =
    let b = g.T.BitStore.BITS in
    let some = width_some _ g.met.T.BitStore.width_law in
    let old = c.args.elements.now in
    let next = next-touched b some c.args.end (sym c.phase_of.ensures ∙ c.if-phase_of-ne0.false) in
    let more = c.in_ok-push.ensures.len in
    let one : div_ceil (c.args.end + 1) b - old.len ≡ 1 = omega arith in
    let len : c.push.new.self.len ≡ div_ceil (c.args.end + 1) b = omega arith in
    let inside = touched-inside b some (c.args.end + 1) c.push.new.self.len len in
    let all : length old.items ≤ div_ceil (c.args.end + 1) b = omega (arith, old.ok.0) in
    let few : c.push.new.self.len ≤ max_bits / b = omega (arith, c.len.ensures, c.most_elements.ensures) in
    record {
      items = rw (one, take_all (div_ceil (c.args.end + 1) b) old.items all) (rw c.ZERO.ensures at c.in_ok-push.ensures.items);
      len = len;
      fits = few-fit b some c.push.new.self.len few;
      inside = omega arith;
      full = tt;
      capacity = usable-more b some (vec_capacity old) (vec_capacity c.push.new.self) c.push.ensures.capacity;
    }
