use Rattle.std.proofs.Common.{arith}
use Rattle.bitvec_places.proofs.KeptLemmas.{found-inside, found-taken, kept-passed, kept-taken, none-left}
use Rattle.bitvec_places.proofs.kept.take_kept.Goals as goal

pub loop-kept-preserved : goal.loop-kept-preserved
loop-kept-preserved g c = kept-passed c.args.want _ _ _ c.loop-kept.invariant c.loop-kept-test.true _ c.load.ensures.keeps

pub returns-then-kept-rest-clause-gives : goal.returns-then-kept-rest-clause-gives
returns-then-kept-rest-clause-gives g c = let none = none-left c.args.want _ _ _ c.loop-kept.invariant c.loop-kept-test.true c.if-kept-rest.true in (none, none)

pub overflow_add-index : goal.overflow_add-index
overflow_add-index g c = let inside = found-inside c.args.want _ _ _ c.loop-kept.invariant c.loop-kept-test.false (omega arith) in omega arith

pub overflow_add-rest : goal.overflow_add-rest
overflow_add-rest g c = let inside = found-inside c.args.want _ _ _ c.loop-kept.invariant c.loop-kept-test.false (omega arith) in omega arith

pub returns : goal.returns
returns g c =
    let inside = found-inside c.args.want _ _ _ c.loop-kept.invariant c.loop-kept-test.false (omega arith) in
    record {
      inside = record { order = omega arith; bound = c.requires.inside.bound };
      keeps = kept-taken c.args.want _ _ _ c.loop-kept.invariant c.loop-kept-test.false (omega arith);
      gives = found-taken c.args.want _ _ _ c.loop-kept.invariant c.loop-kept-test.false (omega arith);
    }
