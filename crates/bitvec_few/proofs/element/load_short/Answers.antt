use Rattle.std.proofs.Common.{ℕ, ◌∙◌, ap, rules, sym, take}
use Rattle.bitvec_base.specs.Memory.{element_bits}
use Rattle.bitvec_words.specs.WholeLaws.{list-empty}
use Rattle.bitvec_cells.specs.WalkLaws.{touched-none}
use Rattle.bitvec_few.proofs.element.load_short.Goals as goal

pub returns-then-window-eq0-clause-value : goal.returns-then-window-eq0-clause-value
returns-then-window-eq0-clause-value g c =
    let none = c.if-window-eq0.true in
    ap (λ (n : ℕ). take n (element_bits g.C.Elem.BitStore.BITS g.O.BitOrder.at (g.C.Elem.BitStore.value c.ZERO.result))) none ∙ sym (list-empty _ _ _ c.args.window none)

pub returns-then-window-eq0-clause-reads : goal.returns-then-window-eq0-clause-reads
returns-then-window-eq0-clause-reads g c =
    let none = touched-none g.C.Elem.BitStore.BITS c.args.window.start in
    rw c.if-window-eq0.true (search rules)
