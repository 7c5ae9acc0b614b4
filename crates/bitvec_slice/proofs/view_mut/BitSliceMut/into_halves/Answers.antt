use Rattle.std.proofs.Common.{◌≡◌, ℕ, ◌+◌, ◌-◌, ◌*◌, ◌%◌, ◌<◌, ◌≤◌, List, length, take, drop, arith, ap, length-take, length-drop}
use Rattle.std.proofs.Math.Nat.{mul-le-mul_left}
use Rattle.std.specs.Prelude.{min}
use Rattle.bitvec_store.specs.WidthLaws.{width_some}
use Rattle.bitvec_slice.proofs.ApartLaws.{front-half, rest-half}
use Rattle.bitvec_slice.specs.Touched.{end_touched, first_touched}
use Rattle.bitvec_slice.specs.TouchedLaws.{touches}
use Rattle.bitvec_slice.proofs.view_mut.BitSliceMut.into_halves.Goals as goal

-- where an element begins, the elements before end
edge-touched : (b place : ℕ) → place % b ≡ 0 → end_touched b place ≡ first_touched b place
edge-touched b place edge = omega (arith, ap (λ (r : ℕ). min 1 r) edge)

-- the parts of n elements on both sides of one
module _ (b n start mid len : ℕ) (some : 0 < b) (bound : mid < len) (inside : start + len ≤ b * n) where
  middle_within : first_touched b (start + mid) ≤ n
  middle_within =
      let is = touches b n (start + mid) (start + len) some (omega arith) inside in
      let order = is.order in
      let last = is.bound in
      omega arith

  last_within : end_touched b (start + len) ≤ n
  last_within = (touches b n (start + mid) (start + len) some (omega arith) inside).bound

front-length : {A : Type 0} (before : List A) (first middle : ℕ) → length before ≡ middle → length (take (length before - first) (drop first before)) ≡ middle - first
front-length before first middle is = omega (arith, length-take (length before - first) (drop first before), length-drop first before)

rest-length : {A : Type 0} (after : List A) (count : ℕ) → count ≤ length after → count ≡ length (take count after)
rest-length after count fits = omega (arith, length-take count after)

few : (b count n most : ℕ) → b * n ≤ most → count ≤ n → b * count ≤ most
few b count n most fits order = let product = mul-le-mul_left {m = count} {n = n} b order in omega arith

pub split_at_mut-before-requires : goal.split_at_mut-before-requires
split_at_mut-before-requires g c =
    let v = c.args.self in
    rw (c.into_elements.ensures.elements, c.touched_range-rest.ensures.first, c.window-window.ensures.value)
    (middle_within g.T.BitStore.BITS (length v.elements.now) v.head c.args.mid v.len (width_some _ g.met.T.BitStore.width_law) c.requires.bound v.inside)

pub slice_bounds-after-length : goal.slice_bounds-after-length
slice_bounds-after-length g c =
    let v = c.args.self in
    let last = last_within g.T.BitStore.BITS (length v.elements.now) v.head c.args.mid v.len (width_some _ g.met.T.BitStore.width_law) c.requires.bound v.inside in
    let end = rw c.window-window.ensures.value at c.touched_range-rest.ensures.end in
    let all = ap length c.into_elements.ensures.elements in
    let back = c.split_at_mut-before.ensures.back_len in
    rest-length c.split_at_mut-before.result.1.now _ (omega arith)

pub from_parts-requires-clause-inside : goal.from_parts-requires-clause-inside
from_parts-requires-clause-inside g c =
    let edge = edge-touched g.T.BitStore.BITS (c.window-window.result.start + c.args.mid) (rw c.window-window.ensures.value c.requires.edge) in
    let holds = rw (c.touched_range-front.ensures.end, edge, ← c.touched_range-rest.ensures.first) at c.touched_range-front.ensures.holds in
    rw (front-length c.split_at_mut-before.result.0.now c.touched_range-front.result.start c.touched_range-rest.result.start c.split_at_mut-before.ensures.front_len, c.phase.ensures)
    (omega arith)

pub from_parts-requires-clause-fits : goal.from_parts-requires-clause-fits
from_parts-requires-clause-fits g c =
    let v = c.args.self in
    let within = middle_within g.T.BitStore.BITS (length v.elements.now) v.head c.args.mid v.len (width_some _ g.met.T.BitStore.width_law) c.requires.bound v.inside in
    let first = rw c.window-window.ensures.value at c.touched_range-rest.ensures.first in
    rw (front-length c.split_at_mut-before.result.0.now c.touched_range-front.result.start c.touched_range-rest.result.start c.split_at_mut-before.ensures.front_len)
    (few g.T.BitStore.BITS _ (length v.elements.now) _ v.bounded (omega arith))

pub from_parts-requires-2-clause-inside : goal.from_parts-requires-2-clause-inside
from_parts-requires-2-clause-inside g c =
    let v = c.args.self in
    let last = last_within g.T.BitStore.BITS (length v.elements.now) v.head c.args.mid v.len (width_some _ g.met.T.BitStore.width_law) c.requires.bound v.inside in
    let end = rw c.window-window.ensures.value at c.touched_range-rest.ensures.end in
    let all = ap length c.into_elements.ensures.elements in
    let back = c.split_at_mut-before.ensures.back_len in
    let holds = c.touched_range-rest.ensures.holds in
    rw (← rest-length c.split_at_mut-before.result.1.now (c.touched_range-rest.result.end - c.touched_range-rest.result.start) (omega arith)) (omega arith)

pub from_parts-requires-2-clause-fits : goal.from_parts-requires-2-clause-fits
from_parts-requires-2-clause-fits g c =
    let v = c.args.self in
    let last = last_within g.T.BitStore.BITS (length v.elements.now) v.head c.args.mid v.len (width_some _ g.met.T.BitStore.width_law) c.requires.bound v.inside in
    let end = rw c.window-window.ensures.value at c.touched_range-rest.ensures.end in
    let all = ap length c.into_elements.ensures.elements in
    let back = c.split_at_mut-before.ensures.back_len in
    rw (← rest-length c.split_at_mut-before.result.1.now (c.touched_range-rest.result.end - c.touched_range-rest.result.start) (omega arith))
    (few g.T.BitStore.BITS _ (length v.elements.now) _ v.bounded (omega arith))

pub returns-clause-front : goal.returns-clause-front
returns-clause-front g c =
    let v = c.args.self in
    let front = rw (c.into_elements.ensures.elements, c.touched_range-rest.ensures.first, c.window-window.ensures.value) at c.split_at_mut-before.ensures.front in
    front-half _ _ _ v.elements.now v.head v.len v.inside _ c.args.mid g.met.T.BitStore.width_law (omega arith) c.requires.edge
    (rw (front, c.touched_range-front.ensures.first, c.phase.ensures, c.window-window.ensures.value) at c.from_parts.ensures.view)

pub returns-clause-rest : goal.returns-clause-rest
returns-clause-rest g c =
    let v = c.args.self in
    let rest = rw (c.into_elements.ensures.elements, c.touched_range-rest.ensures.first, c.window-window.ensures.value) at c.split_at_mut-before.ensures.back in
    rest-half _ _ _ v.elements.now v.head v.len v.inside _ c.args.mid g.met.T.BitStore.width_law (omega arith) c.requires.edge
    (rw (rest, c.touched_range-rest.ensures.first, c.touched_range-rest.ensures.end, c.window-window.ensures.value) at c.from_parts-2.ensures.view)
