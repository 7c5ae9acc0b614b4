use Rattle.std.proofs.Common.{arith, rules}
use Rattle.bitvec_words.specs.TouchedLaws.{touched-first}
use Rattle.bitvec_few.proofs.element.load_element.Goals as goal

pub returns-clause-reads : goal.returns-clause-reads
returns-clause-reads g c =
    let one = touched-first g.C.Elem.BitStore.BITS c.args.window.start c.args.window.len c.requires.some in
    record { numbers = search rules; borrow = search rules; loads = omega arith; stores = search rules }
