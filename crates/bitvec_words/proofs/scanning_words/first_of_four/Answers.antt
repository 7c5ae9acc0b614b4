use Rattle.std.proofs.Common.{arith, sym, refl}
use Rattle.bitvec_base.specs.PlacesLaws.{first_place-below}
use Rattle.bitvec_words.proofs.ScanLemmas.{first-behind, first-front, first-lacks}
use Rattle.bitvec_words.proofs.WordScanLemmas.{length-two}
use Rattle.bitvec_words.proofs.scanning_words.first_of_four.Goals as goal

pub returns-in-Some : goal.returns-in-Some
returns-in-Some g c = first-front c.args.want _ _ c.in-Some.ensures refl

pub returns-in_err-found : goal.returns-in_err-found
returns-in_err-found g c = rw c.from_residual.ensures (first-lacks c.args.want _ _ c.in_default.ensures c.in_err-found.ensures refl)

pub overflow_add-result : goal.overflow_add-result
overflow_add-result g c =
    let below = first_place-below c.args.want _ _ (sym c.in_ok-found.ensures) in
    let long = length-two g.O.BitOrder.at c.args.three c.args.four in
    omega arith

pub returns : goal.returns
returns g c = first-behind c.args.want _ _ _ c.in_default.ensures c.in_ok-found.ensures (length-two g.O.BitOrder.at c.args.one c.args.two) refl
