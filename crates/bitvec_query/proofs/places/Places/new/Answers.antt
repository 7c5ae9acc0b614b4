use Rattle.bitvec_query.proofs.IndicesLaws.{runs_in_order, runs_in_reverse}
use Rattle.bitvec_query.proofs.places.Places.new.Goals as goal

pub returns-clause-runs : goal.returns-clause-runs
returns-clause-runs g c = runs_in_order

pub returns-clause-runs_back : goal.returns-clause-runs_back
returns-clause-runs_back g c = runs_in_reverse
