use Rattle.std.proofs.Common.{ap, refl}
use Rattle.bitvec_domain.specs.Listing.{bits_text}
use Rattle.bitvec_iter.specs.Halves.{mid_of, seen_halves}
use Rattle.bitvec_iter.proofs.PartLaws.{shown-bits}
use Rattle.bitvec_iter.proofs.Writing.{written-as, written-then}
use Rattle.bitvec_iter.proofs.lent_halves.HalvesMut.write_halves.Goals as goal

pub returns : goal.returns
returns g c = λ plain ok.
    let halves = c.args.self.now in let mid = mid_of halves in
    let left = shown-bits _ _ _ _ (record { start = 0; end = mid }) c.into_part.ensures.bits c.from_parts-view.ensures refl in
    let right = shown-bits _ _ _ _ (record { start = mid; end = (seen_halves halves).window.len }) c.into_part-2.ensures.bits c.from_parts-view.ensures refl in
    let first = c.in_ok-fmt.ensures.writes plain refl in
    let lead = c.in_ok-write_str.ensures.writes first.plain refl in
    let second = c.fmt-2.ensures.writes lead.plain ok in
    written-then (written-as (ap bits_text left) first) (written-then lead (written-as (ap bits_text right) second))
