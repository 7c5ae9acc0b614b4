use Rattle.std.proofs.Common.{arith, rules}
use Rattle.bitvec_base.specs.Memory.{memory_bits}
use Rattle.bitvec_base.specs.WritesLaws.{HasWindow-kept}
use Rattle.bitvec_run.specs.RanLaws.{HasWindow-whole, RunsBy-all, RunsBy-next, RunsBy-start, RunsOrFails-failed, RunsOrFails-ran, list-whole}
use Rattle.bitvec_run.specs.declared.run_error.RunError.TheVariants as error
use Rattle.bitvec_run.proofs.running.run_steps.Goals as goal

pub loop-next-init : goal.loop-next-init
loop-next-init g c = record {
  ran = RunsBy-start g.C.CellsRead g.D.CellsRead _ c.args.steps.now (c.has_window.ensures.0 c.if-not-has_window.false) (search rules);
  count = search rules;
  room = search rules;
}

pub loop-next-preserved : goal.loop-next-preserved
loop-next-preserved g c =
    let inv = c.loop-next.invariant in
    let b = g.C.Elem.BitStore.BITS in
    let right = memory_bits b g.O.BitOrder.at (g.D.CellsRead.numbers c.args.right.now) in
    let has = c.has_window.ensures.0 c.if-not-has_window.false in
    let did = rw (c.whole-source.ensures, inv.ran.right.numbers, list-whole b g.O.BitOrder.at (g.D.CellsRead.numbers c.args.right.now), c.next-item.is) at c.carry_out.ensures in
    record {
      ran = rw c.push_reserved.ensures.items (RunsBy-next g.C.CellsRead g.D.CellsRead (g.S.RunStep.outcome b c.args.window.start right) c.args.steps.now _ _ has c.loop-next-test.true inv.ran did);
      count = search rules;
      room = search rules;
    }

pub whole-source-requires : goal.whole-source-requires
whole-source-requires g c = c.fits_max_bits.ensures.0 c.if-not-fits_max_bits.false

pub returns-then-not-has_window : goal.returns-then-not-has_window
returns-then-not-has_window g c =
    RunsOrFails-failed error.Window (λ has. let none = c.if-not-has_window.ensures.1 has in cc)

pub returns-then-not-fits_max_bits : goal.returns-then-not-fits_max_bits
returns-then-not-fits_max_bits g c =
    let has = c.has_window.ensures.0 c.if-not-has_window.false in
    RunsOrFails-failed error.Right (has, λ fits. let none = c.if-not-fits_max_bits.ensures.1 fits in cc)

pub returns-in_default : goal.returns-in_default
returns-in_default g c =
    RunsOrFails-failed error.Memory
    (record { has_window = c.has_window.ensures.0 c.if-not-has_window.false; right_fits = c.fits_max_bits.ensures.0 c.if-not-fits_max_bits.false }, first_of (search rules, grind (arith, rules)))

pub returns : goal.returns
returns g c =
    let ran = RunsBy-all g.C.CellsRead g.D.CellsRead _ c.args.steps.now _ c.loop-next-test.false c.loop-next.invariant.ran in
    RunsOrFails-ran
    (record { has_window = c.has_window.ensures.0 c.if-not-has_window.false; right_fits = c.fits_max_bits.ensures.0 c.if-not-fits_max_bits.false }) ran

pub carry_out-requires : goal.carry_out-requires
carry_out-requires g c =
    let inv = c.loop-next.invariant in
    let fits = HasWindow-whole (c.fits_max_bits.ensures.0 c.if-not-fits_max_bits.false) in
    record { window = HasWindow-kept _ (c.has_window.ensures.0 c.if-not-has_window.false) inv.ran.writes.elements; right_window = rw (c.whole-source.ensures, inv.ran.right.numbers) fits }
