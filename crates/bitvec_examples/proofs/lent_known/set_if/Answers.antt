use Rattle.std.proofs.Common.{◌≡◌, ◌+◌, nat_lt, false, true, arith, rules}
use Rattle.bitvec.specs.KeptLaws.{lent_bits-keep}
use Rattle.bitvec.specs.Laws.{composed}
use Rattle.bitvec.specs.Views.{seen_mut}
use Rattle.bitvec.specs.WidthLaws.{width_some}
use Rattle.bitvec_examples.proofs.lent_known.set_if.Goals as goal

pub returns-in_default-clause-bits : goal.returns-in_default-clause-bits
returns-in_default-clause-bits g c = λ none.
    let has : nat_lt c.args.index (seen_mut c.args.view.now).window.len ≡ false = search rules in
    search (rules, composed)

pub returns-in-Some-clause-elements : goal.returns-in-Some-clause-elements
returns-in-Some-clause-elements g c = λ below.
    let has : nat_lt c.args.index (seen_mut c.args.view.now).window.len ≡ true = search rules in
    rw has (lent_bits-keep c.args.view.now c.args.index (c.args.index + 1) _ _ _ (width_some _ g.met.T.BitStore.width_law) (omega arith) (omega arith) (omega arith) (omega arith))
