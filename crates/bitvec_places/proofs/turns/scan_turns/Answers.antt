use Rattle.std.proofs.Common.{◌≡◌, ◌+◌, ◌-◌, arith, rules, refl, sym, ap, List, ℕ}
use Rattle.bitvec_base.specs.WritesLaws.{length-list}
use Rattle.bitvec_places.proofs.PlacesLaws.{all_places}
use Rattle.bitvec_places.specs.Turns.{turns_give}
use Rattle.bitvec_places.proofs.turns.scan_turns.Goals as goal

pub loop-number-init : goal.loop-number-init
loop-number-init g c =
    let long = length-list g.O.BitOrder.at c.requires.window in
    let start : c.args.window.start + 0 ≡ c.args.window.start = omega arith in
    let len : c.args.window.len - 0 ≡ c.args.window.len = omega arith in
    record {
      inside = search rules;
      gives = ap (λ (places : List ℕ). turns_give places c.args.turns.now) (all_places c.args.want _ c.args.window.len (sym long));
      numbers = refl;
      borrow = refl;
      loads = rw (start, len) (omega arith);
      stores = refl;
    }
