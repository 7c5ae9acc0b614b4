use Rattle.std.proofs.Common.{reverse, refl, arith, sym}
use Rattle.bitvec_base.specs.WritesLaws.{HasWindow-kept, Writes-next, length-list}
use Rattle.bitvec_engine.proofs.RotationLemmas.{Writes-reversed, parts-rotate, reversed_part}
use Rattle.bitvec_engine.proofs.shifting.rotate_left.Goals as goal

pub returns-clause-writes : goal.returns-clause-writes
returns-clause-writes g c =
    let has = c.requires.window in
    let len = c.args.window.len in
    let by = c.args.by in
    let first = Writes-reversed 0 by has (omega arith) c.requires.bound (rw c.range.ensures at c.reverse.ensures.writes) in
    let second = Writes-reversed by len (HasWindow-kept _ has first.elements) c.requires.bound (omega arith) (rw c.range-2.ensures at c.reverse-2.ensures.writes) in
    Writes-next reverse has (Writes-next (reversed_part by len) has first second refl) c.reverse-3.ensures.writes
    (parts-rotate by len _ (sym (length-list g.O.BitOrder.at has)) c.requires.bound)
