use Rattle.std.proofs.Common.{arith, rules, inr, ◌≡◌, ◌∙◌, ap, ◌+◌, ◌++◌, ◌-◌, ℕ, List, length, drop, map, min, take}
use mathlib.Core.List.{append-nil}
use Rattle.std.proofs.lemmas.List.{length-drop, length-map, take_all}
use Rattle.bitvec_base.specs.Memory.{list_in}
use Rattle.bitvec_places.specs.Places.{places_in}
use Rattle.bitvec_places.proofs.PlacesLaws.{places-empty, places-join}
use Rattle.bitvec_places.specs.WordOnes.{order_ones}
use Rattle.bitvec_places.proofs.OrderOnesLemmas.{order-none}
use Rattle.bitvec_places.proofs.WrittenLemmas.{more-most, more-written, written-count, written-none, written-of}
use Rattle.bitvec_places.proofs.writing.write_places.Goals as goal
use Rattle.bitvec_places.proofs.writing.write_places.Goals.{then-word-ne0, else-word-ne0}

pub loop-edge-init : goal.loop-edge-init
loop-edge-init g c =
    let list = list_in g.T.BitStore.BITS g.O.BitOrder.at (map g.T.BitStore.value c.args.elements.now) c.args.window in
    let none = ap length (places-empty c.args.want list c.args.from) in
    record { low = search rules; high = search rules; written = written-none _ _; most = omega arith }

pub loop-edge-preserved : goal.loop-edge-preserved
loop-edge-preserved g c =
    let list = list_in g.T.BitStore.BITS g.O.BitOrder.at (map g.T.BitStore.value c.args.elements.now) c.args.window in
    let inv = c.loop-edge.invariant in
    let low = inv.low in
    let most = inv.most in
    let room = inv.written.room in
    let below = c.if-count-indices.true in
    let edge = c.loop-edge.edge in
    let now = c.loop-edge.indices in
    let n = c.loop-edge.count in
    let word = c.sought_front-word.result.0 in
    let seen = c.sought_front-word.result.1 in
    let some = c.sought_front-word.ensures.some in
    let within = c.sought_front-word.ensures.within in
    let before = places_in c.args.want list c.args.from edge in
    let more = map (λ place. edge + place) (order_ones g.O.BitOrder.at word) in
    let joined : places_in c.args.want list c.args.from (edge + seen) ≡ before ++ more =
    places-join c.args.want list c.args.from edge (edge + seen) low (omega arith) ∙ ap (λ (l : List ℕ). before ++ l) c.sought_front-word.ensures.places in
    let whole : n ≡ length before = omega arith in
    elim c.if-word-ne0.branch [
      | then-word-ne0 w ↦
          let part = w.write_ones-count.new.indices in
          let k = w.write_ones-count.result in
          let rest = length-drop n now in
          let all = take_all (length now - n) (drop n now) (omega arith) in
          let held = ap length all in
          let long = length-map (order_ones g.O.BitOrder.at word) (λ place. edge + place) in
          let count = w.write_ones-count.ensures.count in
          let few : k ≡ min (length more) (length (drop n now)) = omega arith in
          let wrote : part ≡ take k more ++ drop k (take (length now - n) (drop n now)) = w.write_ones-count.ensures.indices in
          let same = wrote ∙ ap (λ (l : List ℕ). take k more ++ drop k l) all in
          rw (w.indices-is, w.count-is) (record {
            low = omega arith;
            high = within;
            written = more-written inv.written _ more part k joined whole few same;
            most = more-most inv.written _ more part k joined whole few same;
          })
      | else-word-ne0 w ↦
          let none = joined ∙ ap (λ (l : List ℕ). before ++ map (λ place. edge + place) l) (order-none g.O.BitOrder.at word w.if-word-ne0.false) ∙ append-nil before in
          rw (w.indices-is, w.count-is) (record { low = omega arith; high = within; written = rw none inv.written; most = rw none inv.most })
    ]

pub returns-else-count-indices-clause-count : goal.returns-else-count-indices-clause-count
returns-else-count-indices-clause-count g c =
    let inv = c.loop-edge.invariant in
    let room = inv.written.room in
    let full = c.if-count-indices.false in
    written-count inv.written _ (places-join c.args.want _ c.args.from c.loop-edge.edge c.args.window.len inv.low inv.high) inv.most (inr (omega arith))

pub returns-else-count-indices-clause-indices : goal.returns-else-count-indices-clause-indices
returns-else-count-indices-clause-indices g c =
    let inv = c.loop-edge.invariant in
    written-of inv.written _ (places-join c.args.want _ c.args.from c.loop-edge.edge c.args.window.len inv.low inv.high)
