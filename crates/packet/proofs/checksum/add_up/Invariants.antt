use Rattle.std.proofs.Common.{◌≡◌, ◌<◌, take}
use Rattle.packet.specs.Checksums.{sum_words}
use Rattle.packet.proofs.checksum.add_up.Given as goal

abbrev pub invariant-loop-word : goal.invariant-loop-word
invariant-loop-word l = (l.sum ≡ sum_words (take l.word-index l.words)) × (l.sum < 65536)
