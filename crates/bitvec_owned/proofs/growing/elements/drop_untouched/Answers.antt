use Rattle.std.proofs.Common.{◌≡◌, ◌≤◌, ◌∙◌, arith, length, refl, sym}
use Rattle.std.specs.Int.{div_ceil}
use Rattle.std.proofs.lemmas.List.{take_all, take_at}
use Rattle.bitvec_store.specs.WidthLaws.{width_some}
use Rattle.bitvec_owned.proofs.Rooms.{next-touched, same-touched}
use Rattle.bitvec_owned.proofs.growing.elements.drop_untouched.Goals as goal

pub returns-then-phase_of-eq0 : goal.returns-then-phase_of-eq0
returns-then-phase_of-eq0 g c =
    let next = next-touched _ (width_some _ g.met.T.BitStore.width_law) c.args.end (sym c.phase_of.ensures ∙ c.if-phase_of-eq0.true) in
    let fewer = c.take_last.new.self in
    let count : fewer.len ≡ div_ceil c.args.end g.T.BitStore.BITS = omega arith in
    record {
      items = rw c.take_last.ensures.items (sym (take_at fewer.items _ (div_ceil c.args.end g.T.BitStore.BITS) (sym fewer.ok.0 ∙ count)));
      len = count;
      capacity = c.take_last.ensures.capacity;
    }

pub returns-else-phase_of-eq0 : goal.returns-else-phase_of-eq0
returns-else-phase_of-eq0 g c =
    let same = same-touched _ (width_some _ g.met.T.BitStore.width_law) c.args.end (rw c.phase_of.ensures at c.if-phase_of-eq0.false) in
    let old = c.args.elements.now in
    let count = c.requires.touched ∙ same in
    let all : length old.items ≤ div_ceil c.args.end g.T.BitStore.BITS = omega (arith, old.ok.0) in
    record { items = sym (take_all (div_ceil c.args.end g.T.BitStore.BITS) old.items all); len = count; capacity = refl }
