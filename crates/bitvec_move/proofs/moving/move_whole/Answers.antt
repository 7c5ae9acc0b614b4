use Rattle.std.proofs.Common.{ℕ, Bool, ◌≡◌, ◌+◌, ◌-◌, ◌*◌, ◌/◌, arith, nat_eq, not}
use Rattle.bitvec_move.proofs.CostSums.{Costs-none, Costs-sum}
use Rattle.bitvec_move.proofs.TurnLaws.{CopiesSome-turn, CopiesSome-whole, turn-span, turn-toward}
use Rattle.bitvec_move.proofs.WithinLaws.{CopiesSome-none}
use Rattle.bitvec_move.proofs.moving.move_whole.Goals as goal

pub loop-step-init : goal.loop-step-init
loop-step-init g c = record {
  writes = CopiesSome-none (not (nat_eq g.row.LATER 0)) _ _ _ _ _ c.requires.span.window;
  cost = Costs-none g.C.CellsRead _;
}

pub move_each-requires-clause-span : goal.move_each-requires-clause-span
move_each-requires-clause-span g c =
    rw c.turn_place-here.ensures.place
    (turn-span (not (nat_eq g.row.LATER 0)) _ _ _ c.args.moved.first c.args.moved.source c.args.moved.count (c.loop-step.step * 128) 128 c.requires.span c.loop-step.invariant.writes.elements (omega arith))

pub move_each-requires-clause-towards : goal.move_each-requires-clause-towards
move_each-requires-clause-towards g c = turn-toward (not (nat_eq g.row.LATER 0)) c.args.moved.first c.args.moved.source c.turn_place-here.result c.requires.towards

pub loop-step-preserved : goal.loop-step-preserved
loop-step-preserved g c =
    let inv = c.loop-step.invariant in
    let next : (c.loop-step.step + 1) * 128 ≡ c.loop-step.step * 128 + 128 = omega arith in
    record {
      writes = rw next (CopiesSome-turn (not (nat_eq g.row.LATER 0)) c.args.moved.first c.args.moved.source c.args.moved.count (c.loop-step.step * 128) 128 c.requires.span c.requires.towards (omega arith) inv.writes
          (rw c.turn_place-here.ensures.place at c.move_each.ensures.writes));
      cost = Costs-sum g.C.CellsRead inv.cost c.move_each.ensures.cost next next;
    }

pub move_each-requires-2-clause-span : goal.move_each-requires-2-clause-span
move_each-requires-2-clause-span g c =
    let n = c.args.moved.count in
    let k : ℕ = n / 128 * 128 in
    rw c.turn_place-behind.ensures.place
    (turn-span (not (nat_eq g.row.LATER 0)) _ _ _ c.args.moved.first c.args.moved.source n k (n - k) c.requires.span c.loop-step.invariant.writes.elements (omega arith))

pub move_each-requires-2-clause-towards : goal.move_each-requires-2-clause-towards
move_each-requires-2-clause-towards g c = turn-toward (not (nat_eq g.row.LATER 0)) c.args.moved.first c.args.moved.source c.turn_place-behind.result c.requires.towards

pub returns-clause-writes : goal.returns-clause-writes
returns-clause-writes g c =
    let later : Bool = not (nat_eq g.row.LATER 0) in
    let n = c.args.moved.count in
    let k : ℕ = n / 128 * 128 in
    let all : c.loop-step.step ≡ n / 128 = omega arith in
    CopiesSome-whole later _ _ _ _ c.args.moved.first c.args.moved.source n (k + (n - k)) (omega arith)
    (CopiesSome-turn later c.args.moved.first c.args.moved.source n k (n - k) c.requires.span c.requires.towards (omega arith) (rw all at c.loop-step.invariant.writes)
    (rw c.turn_place-behind.ensures.place at c.move_each-2.ensures.writes))
