use Rattle.std.proofs.Common.{refl}
use Rattle.bitvec_slice.specs.WriteLaws.{written}
use Rattle.bitvec_run_halves.proofs.runner.run_halves.Goals as goal

pub returns-clause-replies : goal.returns-clause-replies
returns-clause-replies g c = rw (c.elements-elements.ensures, c.window-source.ensures.value, c.window-window.ensures.value, c.elements_mut.ensures.elements) at c.run_in.ensures.replies_is

pub returns-clause-bits : goal.returns-clause-bits
returns-clause-bits g c =
    let wrote = rw (c.elements-elements.ensures, c.window-source.ensures.value, c.window-window.ensures.value, c.elements_mut.ensures.elements) at c.run_in.ensures.writes in
    written _ _ _ _ _ _ wrote refl refl refl
