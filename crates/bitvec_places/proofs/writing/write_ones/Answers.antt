use Rattle.std.proofs.Common.{arith, rules, sym, ◌∙◌, ap, ◌+◌, ◌++◌, ◌-◌, ◌^◌, ◌<◌, ℕ, List, length, drop, map, reverse, take}
use Rattle.std.proofs.lemmas.List.{length-map, length-reverse, take_all}
use Rattle.std.proofs.lemmas.Simd.{map-map}
use Rattle.bitvec_places.specs.WordOnes.{word_ones}
use Rattle.bitvec_places.proofs.OnesLemmas.{ones-count, ones-most}
use Rattle.bitvec_places.proofs.OrderOnesLemmas.{high-ones, map-reverse, turned-ones}
use Rattle.bitvec_places.proofs.writing.write_ones.Goals as goal

pub returns-then-indices-lt-WORD_BITS-clause-count : goal.returns-then-indices-lt-WORD_BITS-clause-count
returns-then-indices-lt-WORD_BITS-clause-count g c =
    let turned = ap length (turned-ones g.O.BitOrder.at c.args.word c.lowest_first.result c.lowest_first.ensures) in
    let fits : c.lowest_first.result < 2 ^ 64 = search rules in
    let count = ones-count c.lowest_first.result fits in
    let is = c.write_few.ensures.count in
    omega arith

pub returns-then-indices-lt-WORD_BITS-clause-indices : goal.returns-then-indices-lt-WORD_BITS-clause-indices
returns-then-indices-lt-WORD_BITS-clause-indices g c =
    rw (sym (turned-ones g.O.BitOrder.at c.args.word c.lowest_first.result c.lowest_first.ensures)) c.write_few.ensures.indices

pub returns-then-HIGH-clause-count : goal.returns-then-HIGH-clause-count
returns-then-HIGH-clause-count g c =
    let high = high-ones g.O.BitOrder.at (λ i below. cc (g.met.O.WordOrder.ends_law 64 i below, sym c.HIGH.ensures ∙ c.if-HIGH.true)) c.args.word in
    let long = ap length high ∙ length-reverse (map (λ i. 63 - i) (word_ones c.args.word)) ∙ length-map (word_ones c.args.word) (λ i. 63 - i) ∙ ones-count c.args.word c.ranges.word.fits in
    let most = ones-most c.args.word in
    let room = c.if-indices-lt-WORD_BITS.false in
    let is = c.write_back.ensures.count in
    let all = ones-count c.args.word c.ranges.word.fits in
    omega arith

pub returns-then-HIGH-clause-indices : goal.returns-then-HIGH-clause-indices
returns-then-HIGH-clause-indices g c =
    let ones = word_ones c.args.word in
    let base = c.args.base in
    let high = high-ones g.O.BitOrder.at (λ i below. cc (g.met.O.WordOrder.ends_law 64 i below, sym c.HIGH.ensures ∙ c.if-HIGH.true)) c.args.word in
    let all = map (λ place. base + (63 - place)) ones in
    let mapped = ap (map (λ place. base + place)) high ∙ map-reverse (λ place. base + place) (map (λ i. 63 - i) ones) ∙ ap reverse (map-map (λ place. base + place) (λ i. 63 - i) ones) in
    let long = length-reverse all ∙ length-map ones (λ place. base + (63 - place)) ∙ ones-count c.args.word c.ranges.word.fits in
    let k = c.write_back.result in
    let count = c.write_back.ensures.count in
    c.write_back.ensures.indices ∙ ap (λ (l : List ℕ). l ++ drop k c.args.indices.now) (sym (ap (take k) mapped ∙ take_all k (reverse all) (omega arith)))

pub returns-else-HIGH-clause-count : goal.returns-else-HIGH-clause-count
returns-else-HIGH-clause-count g c =
    let turned = ap length (turned-ones g.O.BitOrder.at c.args.word c.lowest_first-else-HIGH.result c.lowest_first-else-HIGH.ensures) in
    let fits : c.lowest_first-else-HIGH.result < 2 ^ 64 = search rules in
    let count = ones-count c.lowest_first-else-HIGH.result fits in
    let is = c.write_all.ensures.count in
    omega arith

pub returns-else-HIGH-clause-indices : goal.returns-else-HIGH-clause-indices
returns-else-HIGH-clause-indices g c =
    rw (sym (turned-ones g.O.BitOrder.at c.args.word c.lowest_first-else-HIGH.result c.lowest_first-else-HIGH.ensures)) c.write_all.ensures.indices
