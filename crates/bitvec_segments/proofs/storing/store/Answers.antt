use Rattle.std.proofs.Common.{◌≡◌, ◌<◌, arith}
use Rattle.bitvec_words.specs.TouchedLaws.{touched-first}
use Rattle.bitvec_store.specs.WidthLaws.{width_some}
use Rattle.bitvec_segments.proofs.JoinedWindow.{touched-most}
use Rattle.bitvec_segments.proofs.WalkLemmas.{stored-nothing}
use Rattle.bitvec_segments.proofs.storing.store.Goals as goal

pub returns-then-window-eq0-clause-writes : goal.returns-then-window-eq0-clause-writes
returns-then-window-eq0-clause-writes g c =
    let none : c.args.window.len ≡ 0 = omega arith in
    stored-nothing _ _ _ _ c.requires.window none

pub store_one-requires-clause-inside : goal.store_one-requires-clause-inside
store_one-requires-clause-inside g c =
    let more : 0 < c.args.window.len = omega arith in
    let inside = touched-most c.args.window.start 1 (width_some _ g.met.C.Elem.BitStore.width_law) more (omega arith) in
    omega arith

pub store_segments-requires-clause-passes : goal.store_segments-requires-clause-passes
store_segments-requires-clause-passes g c =
    let first = touched-first g.C.Elem.BitStore.BITS c.args.window.start c.args.window.len (omega arith) in
    omega arith
