use Rattle.std.proofs.Common.{◌≡◌, ◌+◌, ◌-◌, ◌≤◌, arith, rules, refl, ◌∙◌, slice_range}
use Rattle.bitvec_base.specs.Memory.{element_bits}
use Rattle.bitvec_base.specs.PartLaws.{length-part}
use Rattle.bitvec_base.specs.Parts.{first_part_of}
use Rattle.bitvec_words.specs.Front.{front_window}
use Rattle.bitvec_words.specs.MovedLaws.{written-padded}
use Rattle.bitvec_words.specs.TouchedLaws.{touched-word}
use Rattle.bitvec_words.specs.WholeLaws.{window-end}
use Rattle.bitvec_words.proofs.FrontLemmas.{part-front, word-front}
use Rattle.bitvec_words.proofs.PlaceLemmas.{HasWindow-first_bits, HasWindow-word}
use Rattle.bitvec_words.proofs.SplitLemmas.{HasPart-is, HasWindow-front, touched-part}
use Rattle.bitvec_words.proofs.fronts.words_load_front.Goals as goal

pub load_elements-word-requires : goal.load_elements-word-requires
load_elements-word-requires g c =
    let narrow : g.C.Elem.BitStore.BITS ≤ 64 = omega arith in
    rw c.element.ensures (record { window = HasWindow-word g.met.C.Elem.BitStore.width_law narrow c.if-window-ge-WORD_BITS.true (omega arith) c.requires.window; narrow = narrow })

pub returns-then-phase-eq0 : goal.returns-then-phase-eq0
returns-then-phase-eq0 g c =
    let b = g.C.Elem.BitStore.BITS in
    let width = g.met.C.Elem.BitStore.width_law in
    let word = rw c.element.ensures at c.load_elements-word.ensures in
    record {
      value = word-front b g.O.BitOrder.at _ c.args.window _ width (omega arith) c.if-window-ge-WORD_BITS.true (omega arith) c.requires.window word.value;
      reads = rw (touched-word b c.args.window.start width (omega arith) (omega arith)) word.reads;
    }

pub split_head-requires : goal.split_head-requires
split_head-requires g c =
    let some = c.requires.some in
    rw c.front_window.ensures (record { some = omega arith; end = window-end (HasWindow-first_bits refl c.requires.window) })

pub load-element-requires : goal.load-element-requires
load-element-requires g c = (HasPart-is c.split_head.ensures.part (HasWindow-front c.split_head.ensures.split (HasWindow-first_bits c.front_window.ensures c.requires.window))).element

pub len-requires : goal.len-requires
len-requires g c = let part = c.split_head.ensures.part in omega arith

pub moved-word-requires : goal.moved-word-requires
moved-word-requires g c =
    let split = rw c.front_window.ensures at c.split_head.ensures.split in
    rw c.len.ensures (record { source = omega arith; target = omega arith })

pub returns : goal.returns
returns g c =
    let b = g.C.Elem.BitStore.BITS in
    let at = g.O.BitOrder.at in
    let v = g.C.Elem.BitStore.value c.load-element.result in
    let head = c.split_head.result.0 in
    let is = c.split_head.ensures.part in
    let split = rw c.front_window.ensures at c.split_head.ensures.split in
    let place = split.start in
    let part : head ≡ first_part_of b (front_window c.args.window) = rw c.front_window.ensures at c.split_head.ensures.is_first in
    let one = touched-part is in
    let long = length-part b at v head.from head.to (omega arith) in
    let end : head.from + (head.to - head.from) ≡ head.to = omega arith in
    let word = rw (c.len.ensures, end) at c.moved-word.ensures ∙ written-padded 64 (slice_range (element_bits b at v) head.from head.to) (omega arith) in
    rw c.len-2.ensures
    (record {
      value = rw part (part-front b at _ c.args.window _ g.met.C.Elem.BitStore.width_law c.requires.some c.requires.window v (rw part at c.load-element.ensures.value) (rw part at word));
      reads = rw (← place, one) (search rules);
    })
