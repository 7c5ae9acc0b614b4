use Rattle.std.proofs.Common.{◌≡◌, ℕ, ◌<◌, ◌++◌, ◌∷◌, List, [], None, Some, get_or, length, map, string_bytes, Global, ap, sym, ◌∙◌, arith}
use Rattle.std.proofs.lemmas.Grind.{common_steps}
use Rattle.std.proofs.lemmas.List.{get_or-map, length-map}
use Rattle.canframe.specs.Program.{LacksByte, byte_of}
use Rattle.canframe.proofs.WordLaws.{bytes-more}
use Rattle.canframe.proofs.texts.parse_bytes.Goals as goal

pub returns-in_err-byte-clause-fault : goal.returns-in_err-byte-clause-fault
returns-in_err-byte-clause-fault c =
    let words = c.args.words.now in
    let texts : List (List ℕ) = map (string_bytes {Z = Global}) words in
    let i : ℕ = c.loop-word.word-index in
    let item = get_or-map (string_bytes {Z = Global}) words i c.word-item.result [] c.loop-word-test.true in
    let long = length-map words (string_bytes {Z = Global}) in
    let low : i < length texts = grind (arith, long) in
    let none : byte_of (get_or texts i []) ≡ None = grind (arith, common_steps, item) in
    let lacks : LacksByte texts = (i, low, none) in
    grind (arith, common_steps, lacks)

pub loop-word-preserved : goal.loop-word-preserved
loop-word-preserved c =
    let words = c.args.words.now in
    let texts : List (List ℕ) = map (string_bytes {Z = Global}) words in
    let i : ℕ = c.loop-word.word-index in
    let item = get_or-map (string_bytes {Z = Global}) words i c.word-item.result [] c.loop-word-test.true in
    let long = length-map words (string_bytes {Z = Global}) in
    let low : i < length texts = grind (arith, long) in
    let is : byte_of (get_or texts i []) ≡ Some c.in_ok-byte.byte = grind (arith, common_steps, item) in
    let pushed : c.push.new.self.items ≡ c.loop-word.bytes.items ++ c.in_ok-byte.byte ∷ [] = grind (arith, common_steps) in
    record {
      bytes = bytes-more texts i c.in_ok-byte.byte c.loop-word.bytes.items c.loop-word.invariant.bytes low is ∙ ap (map Some) (sym pushed);
      many = grind (arith, common_steps);
    }
