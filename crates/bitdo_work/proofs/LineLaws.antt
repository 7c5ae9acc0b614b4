-- Reading the lines of a text, from its front on.
use Rattle.std.proofs.Common.{◌≡◌, ℕ, ◌+◌, ◌<◌, true, false, ◌&&◌, nat_lt, List, [], ◌∷◌, ◌++◌, length, get_or, take, Option, Some, None, is_none, refl, sym, ap, ◌∙◌, append-nil, arith}
use Rattle.std.specs.List.{filter_map, list_any, position_or_len, cons_option}
use Rattle.std.specs.Str.Lines.{lines}
use borrow.Author.Count.{below_more}
use Rattle.std.proofs.Math.Bool.{and-false}
use Rattle.std.proofs.lemmas.Bool.Decides.{nat_tests}
use Rattle.std.proofs.lemmas.List.{take_more, take_all, get_or_read, nil_from_length}
use Rattle.std.proofs.lemmas.List.Elements.{filter_map-append}
use Rattle.std.proofs.lemmas.List.Folds.{list_any_none}
use Rattle.std.proofs.lemmas.List.Sums.{position_or_len_is}
use Rattle.bitvec_run.specs.declared.step.Step.{Step}
use Rattle.bitdo_work.specs.Steps.{step_of, step_of_words, is_bad_line, steps_of, bad_line_of}

-- the first n lines were read as these steps
pub record HasRead (all : List (List ℕ)) (n : ℕ) (steps : List Step) : Type 0 where
  pub good : (k : ℕ) → k < n → (d : List ℕ) → is_bad_line (get_or all k d) ≡ false
  pub read : filter_map step_of (take n all) ≡ steps

is_bad_line-step : (line : List ℕ) (step : Step) → step_of line ≡ Some step → is_bad_line line ≡ false
unfolding is_bad_line
is_bad_line-step line step one = ap (λ o. nat_lt 0 (length line) && is_none o) one ∙ and-false (nat_lt 0 (length line))

is_bad_line-nil : is_bad_line [] ≡ false
unfolding is_bad_line
is_bad_line-nil = refl

step_of-nil : step_of [] ≡ None
unfolding step_of step_of_words
step_of-nil = refl

is_bad_line-bad : (line : List ℕ) → 0 < length line → step_of line ≡ None → is_bad_line line ≡ true
unfolding is_bad_line
is_bad_line-bad line some bad = ap (λ o. nat_lt 0 (length line) && is_none o) bad ∙ grind (arith, nat_tests)

-- the next line is good, and gives a step or nothing
module _ (all : List (List ℕ)) (n : ℕ) (steps : List Step) (line : List ℕ) (before : HasRead all n steps) (within : n < length all) (is : line ≡ get_or all n line) where
  more_good : is_bad_line line ≡ false → (k : ℕ) → k < n + 1 → (d : List ℕ) → is_bad_line (get_or all k d) ≡ false
  more_good here = below_more (λ k. (d : List ℕ) → is_bad_line (get_or all k d) ≡ false) n before.good
      (λ d. ap is_bad_line (sym (get_or_read all n line within is d)) ∙ here)

  more_read : (o : Option Step) → step_of line ≡ o → filter_map step_of (take (n + 1) all) ≡ steps ++ cons_option o []
  more_read o one = ap (filter_map step_of) (take_more all n line within) ∙ filter_map-append step_of (take n all) (get_or all n line ∷ [])
      ∙ (λ i. before.read i ++ cons_option ((ap step_of (sym is) ∙ one) i) [])

  pub HasRead-step : (step : Step) → step_of line ≡ Some step → HasRead all (n + 1) (steps ++ step ∷ [])
  HasRead-step step one = record { good = more_good (is_bad_line-step line step one); read = more_read (Some step) one }

  pub HasRead-empty : length line ≡ 0 → HasRead all (n + 1) steps
  HasRead-empty empty =
      let nil : line ≡ [] = nil_from_length line empty in
      record { good = more_good (ap is_bad_line nil ∙ is_bad_line-nil); read = more_read None (ap step_of nil ∙ step_of-nil) ∙ append-nil steps }

pub steps_of-HasRead : (text : List ℕ) (n : ℕ) (steps : List Step) → HasRead (lines text) n steps → n ≡ length (lines text) → steps_of text ≡ Some steps
unfolding steps_of
steps_of-HasRead text n steps whole all =
    let none : list_any is_bad_line (lines text) ≡ false = list_any_none is_bad_line (lines text) (λ k d h. whole.good k (omega arith) d) in
    let read : filter_map step_of (lines text) ≡ steps = ap (filter_map step_of) (sym (take_all n (lines text) (omega arith))) ∙ whole.read in
    rw (none, read) refl

pub bad_line_of-HasRead : (text : List ℕ) (n : ℕ) (steps : List Step) (line : List ℕ) → HasRead (lines text) n steps → n < length (lines text) → line ≡ get_or (lines text) n line
    → 0 < length line → step_of line ≡ None → bad_line_of text ≡ Some (n + 1)
unfolding bad_line_of
bad_line_of-HasRead text n steps line before within is some bad =
    let here : is_bad_line (get_or (lines text) n line) ≡ true = ap is_bad_line (sym is) ∙ is_bad_line-bad line some bad in
    let first : position_or_len is_bad_line (lines text) ≡ n =
    position_or_len_is is_bad_line (lines text) n line (omega arith) (λ k h. before.good k h line) (λ _. here) in
    let test : nat_lt n (length (lines text)) ≡ true = grind (arith, nat_tests) in
    rw (first, test) refl
