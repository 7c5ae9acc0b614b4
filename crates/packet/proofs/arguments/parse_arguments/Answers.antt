use Rattle.std.proofs.Common.{◌≡◌, ℕ, List, [], ◌∷◌, ◌++◌, get_or, map, Some, inr, refl, sym, ap, ◌∙◌, arith}
use Rattle.std.proofs.lemmas.Grind.{common_steps}
use Rattle.std.proofs.lemmas.List.{length-map, map_push}
use Rattle.std.specs.Prelude.{string_bytes}
use Rattle.packet.specs.Arguments.{Named, named}
use Rattle.packet.proofs.AssignmentLaws.{assignment-at, each-more, no-assignment}
use Rattle.packet.proofs.arguments.parse_arguments.Goals as goal

pub returns-then-words-ne0-clause-fault : goal.returns-then-words-ne0-clause-fault
returns-then-words-ne0-clause-fault g c =
    let many = length-map c.args.words.now string_bytes in
    inr (refl, λ list are. let count = are.count in absurd (omega arith))

pub returns-in-None-clause-fault : goal.returns-in-None-clause-fault
returns-in-None-clause-fault g c =
    let many = length-map c.args.words.now string_bytes in
    inr (
      refl,
      no-assignment (map string_bytes c.args.words.now) c.loop-number.number (omega arith)
          (assignment-at string_bytes c.args.words.now c.loop-number.number _ _ _ _ (omega arith) c.index-words-number.is c.index-words-number-in-loop-number.is c.as_str-flag.ensures.value c.as_str-word.ensures.value ∙ sym c.in-None.ensures),
    )

pub loop-number-preserved : goal.loop-number-preserved
loop-number-preserved g c =
    let words = c.args.words.now in
    let n : ℕ = c.loop-number.number in
    let before : List Named = map named c.loop-number.assignments.items in
    let one : Named = named c.in-Some.assignment in
    let here = assignment-at string_bytes words n _ _ _ _ (omega arith) c.index-words-number.is c.index-words-number-in-loop-number.is c.as_str-flag.ensures.value c.as_str-word.ensures.value ∙ sym c.in-Some.ensures in
    let items : map named c.push.new.self.items ≡ before ++ one ∷ [] = ap (map named) c.in_ok-push-in-Some.ensures.items ∙ map_push named _ _ in
    record {
      count = grind (arith, common_steps);
      each = λ k low. each-more (map string_bytes words) before one n (length-map c.loop-number.assignments.items named ∙ c.loop-number.invariant.count) c.loop-number.invariant.each here k low
          ∙ ap (λ (l : List Named). Some (get_or l k (record { name = []; value = 0 }))) (sym items);
    }

pub returns-clause-assignments : goal.returns-clause-assignments
returns-clause-assignments g c =
    let many = length-map c.args.words.now string_bytes in
    let count = length-map c.loop-number.assignments.items named in
    record { count = omega arith; each = λ k low. c.loop-number.invariant.each k (omega arith) }
