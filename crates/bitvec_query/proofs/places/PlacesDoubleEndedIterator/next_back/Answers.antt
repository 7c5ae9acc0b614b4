use Rattle.bitvec_places.proofs.KeptLemmas.{kept-ended}
use Rattle.bitvec_query.proofs.places.PlacesDoubleEndedIterator.next_back.Goals as goal

pub invariant_of-self : goal.invariant_of-self
invariant_of-self g c =
    let taken = c.take_last-index.ensures in
    let shows = rw (c.min-count.ensures, c.saturating_sub.ensures) at c.sought_first-self.ensures in
    record { inside = rw c.window.ensures.value at taken.rest.inside; keeps = kept-ended _ _ _ _ c.args.self.now.keeps _ _ taken.rest.front taken.rest.back shows }
