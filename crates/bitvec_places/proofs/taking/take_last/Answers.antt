use Rattle.std.proofs.Common.{◌+◌, arith, rules}
use Rattle.std.proofs.Math.Nat.{sub_self}
use Rattle.bitvec_store.specs.WidthLaws.{width_some}
use Rattle.bitvec_cells.specs.WalkLaws.{touched-none}
use Rattle.bitvec_places.proofs.LoadsLaws.{touched-passed_back}
use Rattle.bitvec_places.proofs.PlacesLaws.{places-empty}
use Rattle.bitvec_places.proofs.TakingLemmas.{last-below, last-taken, none-left_back}
use Rattle.bitvec_places.proofs.taking.take_last.Goals as goal

pub returns-in-Some : goal.returns-in-Some
returns-in-Some g c =
    let b = g.C.Elem.BitStore.BITS in
    let found = rw c.range-left.ensures at c.in-Some.ensures.value in
    let reads = rw c.range-left.ensures at c.in-Some.ensures.reads in
    let below = last-below b g.O.BitOrder.at _ c.args.window c.args.rest.now c.args.want c.requires.window c.requires.inside _ found in
    let passed = touched-passed_back b c.args.window.start c.args.rest.now.front c.args.rest.now.back c.in-Some.found (width_some _ g.met.C.Elem.BitStore.width_law) below in
    record {
      rest = record { inside = record { order = omega arith; bound = search rules }; front = search rules; back = omega arith };
      gives = last-taken b g.O.BitOrder.at _ c.args.window c.args.rest.now c.args.want c.requires.window c.requires.inside _ found;
      reads = record { numbers = search rules; borrow = search rules; loads = omega arith; stores = search rules };
    }

pub returns-in-None : goal.returns-in-None
returns-in-None g c =
    let b = g.C.Elem.BitStore.BITS in
    let found = rw c.range-left.ensures at c.in-None.ensures.value in
    let reads = rw c.range-left.ensures at c.in-None.ensures.reads in
    let same = sub_self c.args.rest.now.front in
    let none = touched-none b (c.args.window.start + c.args.rest.now.front) in
    record {
      rest = record { inside = record { order = omega arith; bound = search rules }; front = search rules; back = omega arith };
      gives = (none-left_back b g.O.BitOrder.at _ c.args.window c.args.rest.now c.args.want c.requires.window c.requires.inside found, places-empty c.args.want _ c.args.rest.now.front);
      reads = record { numbers = search rules; borrow = search rules; loads = rw same (omega arith); stores = search rules };
    }

pub overflow_add-index : goal.overflow_add-index
overflow_add-index g c =
    let found = rw c.range-left.ensures at c.in-Some.ensures.value in
    let below = last-below g.C.Elem.BitStore.BITS g.O.BitOrder.at _ c.args.window c.args.rest.now c.args.want c.requires.window c.requires.inside _ found in
    omega arith
