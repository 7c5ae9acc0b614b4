use Rattle.std.proofs.Common.{◌≡◌, ◌/◌, ◌-◌, ◌+◌, ◌^◌, ◌<◌, ◌≤◌, ℕ, ap, arith, min, vec_capacity}
use Rattle.std.specs.Int.{div_ceil}
use Rattle.std.proofs.lemmas.Result.{on_err_weaker, on_ok_weaker}
use Rattle.bitvec_base.specs.Window.{max_bits}
use Rattle.bitvec_slice.specs.Seen.{shown}
use Rattle.bitvec_store.specs.WidthLaws.{width_some}
use Rattle.bitvec_owned.specs.Owned.{usable_bits}
use Rattle.bitvec_owned.proofs.Rooms.{few-fit, fewest, more-touched, past-fit, refused, touched-inside, usable-more, usable-most}
use Rattle.bitvec_owned.specs.WritesLaws.{ends, held, held-usable}
use Rattle.bitvec_owned.proofs.bit_vec.BitVec.reserve.Goals as goal

-- the sum, where the elements fit that it touches
sum : (b end more s count : ℕ) → 0 < b → s ≡ min (end + more) (2 ^ 64 - 1) → count ≡ div_ceil s b → count ≤ max_bits / b → s ≡ end + more
sum b end more s count some is touched few =
    let inside = touched-inside b some s count touched in
    let fits = few-fit b some count few in
    omega arith

pub overflow_add-end : goal.overflow_add-end
overflow_add-end g c = omega (arith, ends (width_some _ g.met.T.BitStore.width_law) c.args.self.now)

pub returns-in_err-count-clause-full : goal.returns-in_err-count-clause-full
returns-in_err-count-clause-full g c =
    let some = width_some _ g.met.T.BitStore.width_law in
    let most = usable-most g.T.BitStore.BITS some (vec_capacity c.args.self.now.elements) in
    let room = held some c.args.self.now in
    let past = c.in_err-count.ensures.full in
    refused c.from_residual.result (omega arith)

pub returns-in_err-count-clause-succeeds : goal.returns-in_err-count-clause-succeeds
returns-in_err-count-clause-succeeds g c = λ fits.
    let some = width_some _ g.met.T.BitStore.width_law in
    let most = usable-most g.T.BitStore.BITS some (vec_capacity c.args.self.now.elements) in
    let room = held some c.args.self.now in
    let past = c.in_err-count.ensures.full in
    absurd (omega arith)

pub overflow_sub-count : goal.overflow_sub-count
overflow_sub-count g c =
    let old = c.args.self.now in
    let some = width_some _ g.met.T.BitStore.width_law in
    let room = c.in_ok-count.ensures in
    let all = sum _ (old.head + old.len) c.args.additional _ _ some c.saturating_add.ensures room.count room.few in
    rw c.len.ensures (more-touched _ some (old.head + old.len) c.args.additional _ _ old.touched (rw all at room.count))

pub returns : goal.returns
returns g c =
    let b = g.T.BitStore.BITS in
    let some = width_some _ g.met.T.BitStore.width_law in
    let old = c.args.self.now in
    let had = vec_capacity old.elements in
    let end : ℕ = old.head + old.len + c.args.additional in
    let count = c.in_ok-count.count in
    let few = c.in_ok-count.ensures.few in
    let is = rw (sum b (old.head + old.len) c.args.additional _ count some c.saturating_add.ensures c.in_ok-count.ensures.count few) at c.in_ok-count.ensures.count in
    let order = more-touched b some (old.head + old.len) c.args.additional _ _ old.touched is in
    let made = c.reserve.ensures in
    let was = held some old in
    record {
      same = ap (λ xs. shown b g.O.BitOrder.at g.T.BitStore.value xs old.head old.len) made.items;
      ok = on_ok_weaker c.reserve.result (λ room. let held = held-usable b end count (vec_capacity c.reserve.new.self) some is (omega (arith, made.len)) (few-fit b some count few) in omega arith) made.ok;
      capacity = let more = usable-more b some had (vec_capacity c.reserve.new.self) made.capacity in omega arith;
      succeeds = λ room. let fits = fewest b some end (min had (max_bits / b)) (omega arith) in made.succeeds (omega arith);
      full = on_err_weaker c.reserve.result (λ past. let more = past-fit b some end (min had (max_bits / b)) (omega arith) in omega arith) made.full;
      err = on_err_weaker c.reserve.result (λ same. ap (λ (n : ℕ). usable_bits b n - old.head) same) made.err;
    }
