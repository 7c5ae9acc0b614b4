use Rattle.std.proofs.Common.{arith, rules, refl}
use Rattle.std.proofs.Math.Nat.{div-le_self}
use Rattle.std.proofs.lemmas.Nat.{mod_below}
use Rattle.bitvec_store.specs.WidthLaws.{width_some}
use Rattle.bitvec_words.specs.FieldLaws.{list-across, list-front}
use Rattle.bitvec_words.specs.TouchedLaws.{last-first, last-next, next-inside, touched-one, touched-two}
use Rattle.bitvec_few.proofs.element.load_element_after.Goals as goal

pub overflow_sub-BITS : goal.overflow_sub-BITS
overflow_sub-BITS g c = let head = mod_below c.args.window.start g.C.Elem.BitStore.BITS (width_some _ g.met.C.Elem.BitStore.width_law) in omega arith

pub toward_start-requires : goal.toward_start-requires
toward_start-requires g c = rw c.phase-skip.ensures (mod_below c.args.window.start _ (width_some _ g.met.C.Elem.BitStore.width_law))

pub returns-then-window-BITS : goal.returns-then-window-BITS
returns-then-window-BITS g c =
    let b = g.C.Elem.BitStore.BITS in
    let window = c.args.window in
    let some = width_some _ g.met.C.Elem.BitStore.width_law in
    let head = mod_below window.start b some in
    let one = touched-one b window.start window.len some c.requires.short.some (omega arith) in
    record {
      value = rw (c.toward_start.ensures, c.phase-skip.ensures, c.requires.first) (list-front _ some c.requires.short.inside c.requires.short.some (omega arith));
      last = rw (last-first b window.start window.len some c.requires.short.some (omega arith)) c.requires.first;
      reads = record { numbers = refl; borrow = refl; loads = omega arith; stores = refl };
    }

pub overflow_add-element : goal.overflow_add-element
overflow_add-element g c =
    let few = div-le_self c.args.window.start g.C.Elem.BitStore.BITS in
    let start = c.requires.short.inside.within.start in
    omega arith

pub load-second-requires : goal.load-second-requires
load-second-requires g c = rw c.element.ensures (next-inside _ _ c.args.window c.requires.short.inside (omega arith))

pub joined-requires : goal.joined-requires
joined-requires g c =
    let bound = c.requires.short.bound in
    let head = mod_below c.args.window.start g.C.Elem.BitStore.BITS (width_some _ g.met.C.Elem.BitStore.width_law) in
    record { some = omega arith; bound = omega arith }

pub returns : goal.returns
returns g c =
    let b = g.C.Elem.BitStore.BITS in
    let window = c.args.window in
    let bound = c.requires.short.bound in
    let some = width_some _ g.met.C.Elem.BitStore.width_law in
    let head = mod_below window.start b some in
    let two = touched-two b window.start window.len some bound (omega arith) in
    record {
      value = rw (c.joined.ensures, c.load-second.ensures.value, c.element.ensures, c.phase-skip.ensures, c.requires.first) (list-across _ some c.requires.short.inside bound (omega arith));
      last = rw (last-next b window.start window.len some bound (omega arith)) (rw c.element.ensures at c.load-second.ensures.value);
      reads = record { numbers = search rules; borrow = search rules; loads = omega arith; stores = search rules };
    }
