use Rattle.std.specs.Prelude.{ℕ, ◌-◌, ◌*◌, ◌≤◌, List, length, slice_range}
use Rattle.std.proofs.Common.{arith, ◌∙◌, ap}
use Rattle.std.proofs.Math.Nat.{mul-le-mul_left}
use Rattle.std.proofs.lemmas.List.{length-map}
use Rattle.std.proofs.lemmas.Option.{IfSome_then}
use Rattle.bitvec_base.specs.WriteLaws.{length-slice_range}
use Rattle.bitvec_slice.specs.Domains.{views_in}
use Rattle.bitvec_slice.specs.Domains.Views.{region}
use Rattle.bitvec_slice.specs.Seen.{shown}
use Rattle.bitvec_slice.proofs.bit_domain.bit_domain_of.Goals as goal

few : {X : Type 0} (b : ℕ) (elements : List X) (start end most : ℕ) → start ≤ end → end ≤ length elements → b * length elements ≤ most → b * length (slice_range elements start end) ≤ most
few b elements start end most order bound fits =
    let fewer = mul-le-mul_left {m = end - start} {n = length elements} b (omega arith) in
    rw (length-slice_range elements start end bound) (omega arith)

pub part_view_if-requires : goal.part_view_if-requires
part_view_if-requires g c = IfSome_then c.in-Across.head c.in-Across.ensures.within.0 (λ part is. is.within)

pub offset_bounds-elements-start : goal.offset_bounds-elements-start
offset_bounds-elements-start g c =
    let order = c.in-Across.ensures.within.1 in
    let bound = c.in-Across.ensures.within.2 in
    omega arith

pub slice_bounds-from_slice-count : goal.slice_bounds-from_slice-count
slice_bounds-from_slice-count g c = c.in-Across.ensures.within.1

pub slice_bounds-from_slice-start : goal.slice_bounds-from_slice-start
slice_bounds-from_slice-start g c = c.in-Across.ensures.within.1

pub slice_bounds-from_slice-end : goal.slice_bounds-from_slice-end
slice_bounds-from_slice-end g c = c.in-Across.ensures.within.2

pub from_slice-requires : goal.from_slice-requires
from_slice-requires g c =
    let cut = c.in-Across.ensures.within in
    few g.T.BitStore.BITS c.args.elements.now c.in-Across.start c.in-Across.end _ cut.1 cut.2 (rw length-map at c.requires.window.fits)

pub part_view_if-requires-in-Across : goal.part_view_if-requires-in-Across
part_view_if-requires-in-Across g c = IfSome_then c.in-Across.tail c.in-Across.ensures.within.3 (λ part is. is.within)

pub returns-in-Across : goal.returns-in-Across
returns-in-Across g c =
    let b = g.T.BitStore.BITS in
    let at = g.O.BitOrder.at in
    let value = g.T.BitStore.value in
    let head = c.part_view_if.ensures in
    let body = c.from_slice.ensures in
    let tail = c.part_view_if-in-Across.ensures in
    let size = body.len ∙ ap (λ (n : ℕ). b * n) (length-slice_range c.args.elements.now c.in-Across.start c.in-Across.end c.in-Across.ensures.within.2) in
    (λ i. region (head i) (shown b at value (body.elements i) (body.start i) (size i)) (tail i))
    ∙ ap (views_in b at value c.args.elements.now) c.in-Across.ensures.value
