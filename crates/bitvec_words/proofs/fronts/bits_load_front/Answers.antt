use Rattle.std.proofs.Common.{◌≡◌, arith, rules, refl}
use Rattle.bitvec_base.specs.Parts.{first_part_of}
use Rattle.bitvec_words.specs.Front.{front_window}
use Rattle.bitvec_words.specs.WholeLaws.{window-end}
use Rattle.bitvec_words.proofs.FrontLemmas.{part-front}
use Rattle.bitvec_words.proofs.PlaceLemmas.{HasWindow-first_bits}
use Rattle.bitvec_words.proofs.SplitLemmas.{HasPart-is, HasWindow-front, touched-part}
use Rattle.bitvec_words.proofs.fronts.bits_load_front.Goals as goal

pub split_head-requires : goal.split_head-requires
split_head-requires g c =
    let some = c.requires.some in
    rw c.front_window.ensures (record { some = omega arith; end = window-end (HasWindow-first_bits refl c.requires.window) })

pub load-element-requires : goal.load-element-requires
load-element-requires g c = (HasPart-is c.split_head.ensures.part (HasWindow-front c.split_head.ensures.split (HasWindow-first_bits c.front_window.ensures c.requires.window))).element

pub gathered-word-requires : goal.gathered-word-requires
gathered-word-requires g c =
    let split = rw c.front_window.ensures at c.split_head.ensures.split in
    record { order = omega arith; bound = omega arith; fits = omega arith }

pub len-requires : goal.len-requires
len-requires g c = let part = c.split_head.ensures.part in omega arith

pub returns : goal.returns
returns g c =
    let part : c.split_head.result.0 ≡ first_part_of g.C.Elem.BitStore.BITS (front_window c.args.window) = rw c.front_window.ensures at c.split_head.ensures.is_first in
    let place = rw c.front_window.ensures at c.split_head.ensures.split.start in
    let one = touched-part c.split_head.ensures.part in
    rw c.len.ensures
    (record {
      value = rw part (part-front _ g.O.BitOrder.at _ c.args.window _ g.met.C.Elem.BitStore.width_law c.requires.some c.requires.window _ (rw part at c.load-element.ensures.value) (rw part at c.gathered-word.ensures));
      reads = rw (← place, one) (search rules);
    })
