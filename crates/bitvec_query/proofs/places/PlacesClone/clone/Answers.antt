use Rattle.bitvec_query.proofs.KeptLaws.{same-walk}
use Rattle.bitvec_query.proofs.places.PlacesClone.clone.Goals as goal

pub returns : goal.returns
returns g c = record { cases = same-walk _ _ _ }
