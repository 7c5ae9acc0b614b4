use Rattle.std.specs.Prelude.{◌≡◌, ℕ, ◌+◌, ◌*◌, ◌%◌, ◌≤◌, List, ◌++◌, length, map, refl}
use Rattle.std.proofs.Common.{arith, ap, subst, sym, ◌∙◌}
use Rattle.std.proofs.lemmas.List.{map-append}
use Rattle.bitvec_base.specs.Memory.{HasWindow, Writes, list_in}
use Rattle.bitvec_base.specs.declared.window.Window.{Window}
use Rattle.bitvec_store.specs.WidthLaws.{width_some}
use Rattle.bitvec_within.specs.Swaps.{swapped_within}
use Rattle.bitvec_within.proofs.Edges.{cut-inside, cut-place, sides-swapped}
use Rattle.bitvec_within.proofs.swapping_within.swap_sides.Goals as goal

pub swap_with_block_in-requires-clause-window : goal.swap_with_block_in-requires-clause-window
swap_with_block_in-requires-clause-window g c = (cut-inside _ _ g.T.BitStore.value c.args.elements.now c.split_at_mut-front.result.0.now c.split_at_mut-front.result.1.now c.args.window _ c.args.first c.args.second c.args.len c.BITS-bits.ensures c.requires.window c.split_at_mut-front.ensures.value c.split_at_mut-front.ensures.front_len c.range-near.ensures c.requires.edge c.requires.bound).0

pub swap_with_block_in-requires-clause-right_window : goal.swap_with_block_in-requires-clause-right_window
swap_with_block_in-requires-clause-right_window g c = (cut-inside _ _ g.T.BitStore.value c.args.elements.now c.split_at_mut-front.result.0.now c.split_at_mut-front.result.1.now c.args.window _ c.args.first c.args.second c.args.len c.BITS-bits.ensures c.requires.window c.split_at_mut-front.ensures.value c.split_at_mut-front.ensures.front_len c.range-near.ensures c.requires.edge c.requires.bound).1

pub returns : goal.returns
returns g c =
    let b = g.T.BitStore.BITS in
    let at = g.O.BitOrder.at in
    let value = g.T.BitStore.value in
    let window = c.args.window in
    let front = c.split_at_mut-front.result.0.now in
    let rest = c.split_at_mut-front.result.1.now in
    let left = c.swap_with_block_in.new.left in
    let right = c.swap_with_block_in.new.right in
    let bits = c.BITS-bits.result in
    let same : bits ≡ b = c.BITS-bits.ensures in
    let near = c.range-near.result in
    let far : Window = record { start = (window.start + c.args.second) % bits; len = c.args.len } in
    let far-start : b * length (map value front) + far.start ≡ window.start + c.args.second = cut-place value front window c.args.second same c.split_at_mut-front.ensures.front_len in
    let near-start : near.start ≡ window.start + c.args.first = ap (λ (w : Window). w.start) c.range-near.ensures in
    let near-len : near.len ≡ c.args.len = ap (λ (w : Window). w.len) c.range-near.ensures ∙ omega arith in
    let elements : map value c.args.elements.now ≡ map value front ++ map value rest = ap (map value) c.split_at_mut-front.ensures.value ∙ map-append value front rest in
    let sides = cut-inside b bits value c.args.elements.now front rest window near c.args.first c.args.second c.args.len same c.requires.window c.split_at_mut-front.ensures.value c.split_at_mut-front.ensures.front_len c.range-near.ensures c.requires.edge c.requires.bound in
    let has = subst (λ (xs : List ℕ). HasWindow b xs window) elements c.requires.window in
    let bound = c.requires.bound in
    let order = c.requires.edge in
    let source : c.args.first + c.args.len ≤ window.len = omega arith in
    let wrote = sides-swapped b at (width_some b g.met.T.BitStore.width_law) (map value front) (map value rest) (map value left) (map value right) window near far c.args.first c.args.second c.args.len
    has sides.0 sides.1 near-start near-len far-start refl source c.requires.bound c.swap_with_block_in.ensures.writes c.swap_with_block_in.ensures.right_writes in
    record {
      writes = subst (λ (xs : List ℕ). Writes b at xs (map value (left ++ right)) window (swapped_within c.args.first (c.args.first + c.args.len) c.args.second (list_in b at xs window))) (sym elements)
          (subst (λ (xs : List ℕ). Writes b at (map value front ++ map value rest) xs window (swapped_within c.args.first (c.args.first + c.args.len) c.args.second (list_in b at (map value front ++ map value rest) window)))
          (sym (map-append value left right)) wrote);
    }
