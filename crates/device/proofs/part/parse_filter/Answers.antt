use Rattle.std.proofs.Common.{◌≡◌, ℕ, ◌+◌, ◌<◌, None, Some, map, string_bytes, Global, length, List, Option, [], get_or, take, ◌∙◌, sym, subst, arith}
use Rattle.std.specs.Prelude.{IsSomeAnd}
use Rattle.std.proofs.lemmas.Grind.{common_steps}
use Rattle.std.proofs.lemmas.List.{get_or-map, length-map}
use Rattle.numerals.specs.Numerals.{number_of}
use Rattle.device.specs.Numbers.{numbers_of, with_number}
use Rattle.device.specs.Parts.{IsFilter, MakesFilter}
use Rattle.device.proofs.FilterLaws.{filter-more, numbers_of-more, numbers_of-other}
use Rattle.device.proofs.part.parse_filter.Goals as goal

pub returns-in_err-parse_u64 : goal.returns-in_err-parse_u64
returns-in_err-parse_u64 c =
    let words = c.args.words.now in
    let texts : List (List ℕ) = map (string_bytes {Z = Global}) words in
    let i : ℕ = c.loop-word.word-index in
    let item = get_or-map (string_bytes {Z = Global}) words i c.word-item.result [] c.loop-word-test.true in
    let long = length-map words (string_bytes {Z = Global}) in
    let other : number_of 64 (get_or texts i []) ≡ None = grind (arith, common_steps, item) in
    let low : i < length texts = grind (arith, long) in
    let none = numbers_of-other texts i low other in
    let made : c.from_residual.result ≡ None = grind (arith, common_steps) in
    subst (λ numbers. MakesFilter numbers c.from_residual.result) (sym none) made

pub loop-word-preserved : goal.loop-word-preserved
loop-word-preserved c =
    let words = c.args.words.now in
    let i : ℕ = c.loop-word.word-index in
    let text : List ℕ = string_bytes {Z = Global} c.word-item.result in
    let key : number_of 64 text ≡ Some c.in_ok-parse_u64.field-0 = grind (arith, common_steps) in
    let more : numbers_of (map (string_bytes {Z = Global}) (take (i + 1) words)) ≡ with_number (numbers_of (map (string_bytes {Z = Global}) (take i words))) text =
    numbers_of-more (string_bytes {Z = Global}) words i c.word-item.result c.loop-word-test.true ∙ (λ k. with_number (numbers_of (map (string_bytes {Z = Global}) (take i words))) (string_bytes {Z = Global} (sym c.word-item.is k))) in
    subst (λ (numbers : Option (List ℕ)). IsSomeAnd numbers (λ keys. IsFilter keys c.insert.new.self)) (sym more)
    (filter-more _ text c.in_ok-parse_u64.field-0 c.loop-word.filter c.insert.new.self c.loop-word.invariant key c.insert.ensures.inserted c.insert.ensures.kept)
