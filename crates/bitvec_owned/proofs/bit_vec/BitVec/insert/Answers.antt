use Rattle.std.proofs.Common.{◌≡◌, ◌+◌, ◌∙◌, Bool, List, ap, arith, length, slice_set}
use Rattle.std.proofs.lemmas.List.{length_push}
use Rattle.bitvec_base.specs.Lists.{copied_within}
use Rattle.bitvec_base.specs.declared.window.Window.{Window}
use Rattle.bitvec_store.specs.WidthLaws.{width_some}
use Rattle.bitvec_owned.proofs.Middles.{opened}
use Rattle.bitvec_owned.specs.Owned.{owned}
use Rattle.bitvec_owned.specs.WritesLaws.{length-owned}
use Rattle.bitvec_owned.specs.AroundLaws.{around-then, around-written}
use Rattle.bitvec_owned.proofs.bit_vec.BitVec.insert.Goals as goal

pub copy_within-requires : goal.copy_within-requires
copy_within-requires g c =
    let some = width_some _ g.met.T.BitStore.width_law in
    let before = length-owned some c.args.self.now in
    let after = length-owned some c.push.new.self in
    let more : length (owned c.push.new.self).bits ≡ length (owned c.args.self.now).bits + 1 = ap length c.in_ok-push.ensures.bits ∙ length_push (owned c.args.self.now).bits c.args.bit in
    record { order = omega arith; source = omega arith; room = omega arith }

pub set-requires : goal.set-requires
set-requires g c =
    let some = width_some _ g.met.T.BitStore.width_law in
    let before = length-owned some c.args.self.now in
    let after = length-owned some c.push.new.self in
    let more : length (owned c.push.new.self).bits ≡ length (owned c.args.self.now).bits + 1 = ap length c.in_ok-push.ensures.bits ∙ length_push (owned c.args.self.now).bits c.args.bit in
    let same = ap (λ (w : Window). w.len) c.copy_within.ensures.window in
    omega arith

pub returns-clause-bits : goal.returns-clause-bits
returns-clause-bits g c =
    let old = (owned c.args.self.now).bits in
    let long = c.len-len.ensures.value in
    c.set.ensures.bits
    ∙ ap (λ (l : List Bool). slice_set l c.args.index c.args.bit) (c.copy_within.ensures.bits ∙ ap (copied_within c.args.index c.len-len.result (c.args.index + 1)) c.in_ok-push.ensures.bits)
    ∙ opened old c.args.bit c.args.bit c.args.index c.len-len.result long (omega arith)

pub returns-clause-around : goal.returns-clause-around
returns-clause-around g c =
    let pushed = c.push.new.self in
    let moved = c.copy_within.new.self in
    let last = c.set.new.self in
    around-then _ (owned c.args.self.now) (owned pushed) (owned last) c.in_ok-push.ensures.around
    (around-then _ (owned pushed) (owned moved) (owned last) (around-written pushed moved _ c.copy_within.ensures) (around-written moved last _ c.set.ensures))
