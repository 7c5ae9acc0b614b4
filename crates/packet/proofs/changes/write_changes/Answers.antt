use Rattle.std.proofs.Common.{◌≡◌, ℕ, ◌+◌, ◌<◌, List, [], ◌∷◌, ◌++◌, get_or, length, take, sym, subst, arith}
use Rattle.std.proofs.lemmas.List.{take_more}
use Rattle.bitrecord.specs.RecordLaws.{is-layout}
use Rattle.bitrecord.specs.Views.{bits_of, fields_of}
use Rattle.packet.specs.Changes.{WritesChanges}
use Rattle.packet.specs.declared.changes.Change.{Change}
use Rattle.packet.proofs.ChangeLaws.{changes-more, changes-none, done}
use Rattle.packet.proofs.changes.write_changes.Goals as goal

pub loop-change-init : goal.loop-change-init
loop-change-init g c = changes-none (fields_of c.args.layout.now) c.args.view.now

pub loop-change-preserved : goal.loop-change-preserved
loop-change-preserved g c =
    let layout = c.args.layout.now in
    let changes : List Change = c.args.changes.now in
    let i : ℕ = c.loop-change.change-index in
    let none : Change = record { number = 0; value = 0 } in
    let low : i < length changes = omega arith in
    let more : take (i + 1) changes ≡ take i changes ++ get_or changes i none ∷ [] = take_more changes i none low in
    subst (λ (l : List Change). WritesChanges (fields_of layout) l c.args.view.now c.encode_one.new.out) (sym more)
    (changes-more (bits_of layout) (fields_of layout) (take i changes) (get_or changes i none) c.args.view.now c.loop-change.view c.encode_one.new.out (is-layout layout) c.requires.bits
    (c.requires.changes i none low).field c.loop-change.invariant (done c.encode_one.result _ c.unwrap.ensures c.encode_one.ensures.encoded))
