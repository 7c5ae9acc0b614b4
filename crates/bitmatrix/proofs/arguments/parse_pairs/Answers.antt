use Rattle.std.proofs.Common.{◌≡◌, ℕ, ◌<◌, None, map, string_bytes, Global, length, List, [], get_or, arith}
use Rattle.std.proofs.lemmas.Grind.{common_steps}
use Rattle.std.proofs.lemmas.List.{get_or-map, length-map}
use Rattle.bitmatrix.specs.Arguments.{pair_of}
use Rattle.bitmatrix.proofs.PairLaws.{bits_in-other}
use Rattle.bitmatrix.proofs.arguments.parse_pairs.Goals as goal

pub returns-in_err-from : goal.returns-in_err-from
returns-in_err-from c =
    let words = c.args.words.now in
    let texts : List (List ℕ) = map (string_bytes {Z = Global}) words in
    let i : ℕ = c.loop-word.word-index in
    let item = get_or-map (string_bytes {Z = Global}) words i c.word-item.result [] c.loop-word-test.true in
    let long = length-map words (string_bytes {Z = Global}) in
    let other : pair_of (get_or texts i []) ≡ None = grind (arith, common_steps, item) in
    let low : i < length texts = grind (arith, long) in
    let none = bits_in-other texts i low other in
    grind (arith, common_steps, none)
