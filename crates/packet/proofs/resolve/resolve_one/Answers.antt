use Rattle.std.proofs.Common.{◌≡◌, ◌^◌, ◌<◌, [], Some, refl, sym, subst, ◌∙◌, arith}
use Rattle.std.proofs.lemmas.List.{length-map}
use Rattle.bitvec.specs.Types.{Window}
use Rattle.packet.specs.Packets.{Place, place, places_of}
use Rattle.packet.specs.Resolved.{place_of}
use Rattle.packet.proofs.PlaceLaws.{place-below, window-at}
use Rattle.packet.proofs.resolve.resolve_one.Goals as goal

pub returns-then-not-fits-clause-fault : goal.returns-then-not-fits-clause-fault
returns-then-not-fits-clause-fault c =
    let fields = c.args.fields.now in
    let is : place_of (places_of fields) c.args.assignment.name.now ≡ Some c.in-Some.number = sym c.find_field.ensures ∙ c.in-Some.is in
    let low = place-below fields c.args.assignment.name.now c.in-Some.number is in
    let window = window-at fields c.in-Some.number (record { name = record { ref_ptr = (0, 0); now = [] }; window = record { start = 0; len = 0 } }) low in
    (refl, rw is (λ small. let yes = c.fits.ensures.1 (subst (λ (w : Window). c.args.assignment.value < 2 ^ w.len) window small) in let no = c.if-not-fits.true in absurd (cc)))

pub returns-clause-change : goal.returns-clause-change
returns-clause-change c =
    let fields = c.args.fields.now in
    let is : place_of (places_of fields) c.args.assignment.name.now ≡ Some c.in-Some.number = sym c.find_field.ensures ∙ c.in-Some.is in
    let low = place-below fields c.args.assignment.name.now c.in-Some.number is in
    let window = window-at fields c.in-Some.number (record { name = record { ref_ptr = (0, 0); now = [] }; window = record { start = 0; len = 0 } }) low in
    let many = length-map fields place in
    let more = length-map (places_of fields) (λ (field : Place). field.window) in
    record {
      place = is;
      free = sym c.is_fixed_field.ensures ∙ c.if-is_fixed_field.false;
      value = refl;
      can = record {
        field = omega arith;
        fits = subst (λ (w : Window). c.args.assignment.value < 2 ^ w.len) (sym window) (c.fits.ensures.0 c.if-not-fits.false);
      };
    }

pub bounds-fields-number : goal.bounds-fields-number
bounds-fields-number c = place-below c.args.fields.now c.args.assignment.name.now c.in-Some.number (sym c.find_field.ensures ∙ c.in-Some.is)
