use Rattle.std.proofs.Common.{◌∙◌, ap, arith, length, length-take, refl, subst, sym, take}
use Rattle.bitvec_store.specs.WidthLaws.{width_some}
use Rattle.bitvec_domain.specs.PredicatesLaws.{may_ask_either}
use Rattle.bitvec_owned.proofs.Fronts.{has-window}
use Rattle.bitvec_owned.specs.AroundLaws.{around-then, around-written}
use Rattle.bitvec_owned.specs.Lending.{with_elements}
use Rattle.bitvec_owned.specs.Owned.{owned}
use Rattle.bitvec_owned.specs.Retained.{Retains}
use Rattle.bitvec_owned.specs.WritesLaws.{inside, length-owned, sequence_written}
use Rattle.bitvec_owned.proofs.bit_vec.BitVec.retain.Goals as goal

pub move_kept-kept-requires-clause-window : goal.move_kept-kept-requires-clause-window
move_kept-kept-requires-clause-window g c =
    let some = width_some _ g.met.T.BitStore.width_law in
    has-window _ g.O.BitOrder.at g.T.BitStore.value some c.as_raw_mut_slice.result.now _ _ _ refl c.as_raw_mut_slice.ensures.fits (rw c.as_raw_mut_slice.ensures.elements (inside some c.args.self.now))

pub move_kept-kept-requires-clause-callable : goal.move_kept-kept-requires-clause-callable
move_kept-kept-requires-clause-callable g c = may_ask_either c.requires

pub returns : goal.returns
returns g c =
    let some = width_some _ g.met.T.BitStore.width_law in
    let old = c.args.self.now in
    let moved = with_elements old c.move_kept-kept.new.elements in
    let wrote = c.move_kept-kept.ensures.writes in
    let written = sequence_written some old c.move_kept-kept.new.elements c.as_raw_mut_slice.result.now (owned old).window wrote.0 wrote.0 wrote.1 c.as_raw_mut_slice.ensures.elements refl refl in
    let left = c.truncate.ensures.bits ∙ ap (take c.move_kept-kept.result) written.bits in
    let size = length-owned some c.truncate.new.self in
    let few = ap length left ∙ length-take c.move_kept-kept.result wrote.0 in
    record {
      bits = subst (Retains g.P.FnMut c.args.pred (owned old).bits) (sym left) (rw c.as_raw_mut_slice.ensures.elements at wrote.2);
      bound = omega arith;
      around = around-then _ (owned old) (owned moved) (owned c.truncate.new.self) (around-written old moved wrote.0 written) c.truncate.ensures.around;
      capacity = c.truncate.ensures.capacity;
    }
