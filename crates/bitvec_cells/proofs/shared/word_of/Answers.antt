use Rattle.std.proofs.Common.{◌/◌}
use Rattle.bitvec_cells.specs.PutLaws.{word-numbers}
use Rattle.bitvec_cells.proofs.shared.word_of.Goals as goal

pub returns-clause-digits : goal.returns-clause-digits
returns-clause-digits g c = word-numbers g.T.BitStore.value c.args.first (64 / g.T.BitStore.BITS) c.args.elements.now c.requires c.load_word.ensures.digits
