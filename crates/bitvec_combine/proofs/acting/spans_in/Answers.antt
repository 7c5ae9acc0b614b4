use Rattle.std.proofs.Common.{◌≡◌, ◌/◌, rules}
use Rattle.std.proofs.Math.Nat.{div-mul-le_self}
use Rattle.bitvec_combine.proofs.acting.spans_in.Goals as goal

pub returns-clause-fits : goal.returns-clause-fits
returns-clause-fits c = let is : c.unwrap_or.result ≡ c.args.count / c.args.span = search rules in rw is (div-mul-le_self c.args.count c.args.span)
