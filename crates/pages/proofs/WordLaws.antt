-- Words done in turn.
use Rattle.std.proofs.Common.{◌≡◌, ℕ, ◌+◌, ◌<◌, ◌⊎◌, inl, inr, List, [], get_or, length, take, Option, Some, None, refl, sym, ap, ◌∙◌, subst, Bool, false, replicate}
use Rattle.std.proofs.KnownBytes.{Appends-nil, Appends-trans}
use Rattle.std.proofs.lemmas.List.Folds.{fold_stuck}
use Rattle.std.proofs.lemmas.List.Sums.{fold_more}
use Rattle.pages.specs.Words.{Done, Prints, go_on, next, word_done, words_done}
use Rattle.pages.specs.declared.fault.Fault.{Fault}
use Rattle.pages.specs.declared.fault.Fault.TheVariants.{Output}

next-none : (done : Done) (word : List ℕ) → done.fault ≡ None → next done word ≡ go_on None done (word_done done.pages word)
unfolding next
next-none done word none = ap (λ (fault : Option Fault). go_on fault done (word_done done.pages word)) none

next-fault : (done : Done) (fault : Fault) → done.fault ≡ Some fault → (word : List ℕ) → next done word ≡ done
unfolding next
next-fault done fault some word = ap (λ (ended : Option Fault). go_on ended done (word_done done.pages word)) some

-- the words were all done, and the map is this
pub record AreDone (words : List (List ℕ)) (pages : List Bool) (before after : Option (List ℕ)) : Type 0 where
  pub prints : Prints (words_done words) None before after
  pub pages_are : (words_done words).pages ≡ pages

pub done-none : (pages : List Bool) (before : Option (List ℕ)) → pages ≡ replicate 4096 false → AreDone [] pages before before
unfolding words_done
done-none pages before is = record { prints = record { fault_is = refl; printed = Appends-nil before }; pages_are = sym is }

module _ (words : List (List ℕ)) (i : ℕ) (word : List ℕ) (pages : List Bool) (before middle after : Option (List ℕ))
    (done : AreDone (take i words) pages before middle) (inside : i < length words) (is : get_or words i [] ≡ word) where
  one-more : next (words_done (take i words)) (get_or words i []) ≡ go_on None (words_done (take i words)) (word_done pages word)
  one-more =
      next-none _ _ done.prints.fault_is
      ∙ ap (λ (p : List Bool). go_on None (words_done (take i words)) (word_done p (get_or words i []))) done.pages_are
      ∙ ap (λ (w : List ℕ). go_on None (words_done (take i words)) (word_done pages w)) is

  appended : (fault : Option Fault) → Prints (word_done pages word) fault middle after → Prints (go_on None (words_done (take i words)) (word_done pages word)) fault before after
  appended fault prints = record { fault_is = prints.fault_is; printed = Appends-trans _ _ _ _ _ done.prints.printed prints.printed }

  all-done : words_done (take (i + 1) words) ≡ go_on None (words_done (take i words)) (word_done pages word)
  unfolding words_done
  all-done = fold_more next _ words i [] inside ∙ one-more

  pub done-more : (new : List Bool) → Prints (word_done pages word) None middle after → new ≡ (word_done pages word).pages → AreDone (take (i + 1) words) new before after
  done-more new prints changed = record {
    prints = subst (λ (all : Done). Prints all None before after) (sym all-done) (appended None prints);
    pages_are = ap (λ (all : Done). all.pages) all-done ∙ sym changed;
  }

  stopped : (fault : Fault) → Prints (word_done pages word) (Some fault) middle after → Prints (words_done words) (Some fault) before after
  unfolding words_done
  stopped fault prints =
      let ended = appended (Some fault) prints in
      subst (λ (all : Done). Prints all (Some fault) before after) (fold_stuck next _ (next-fault _ fault ended.fault_is) _ words i [] inside one-more) ended

  pub done-fault : (fault : Fault) → (fault ≡ Output) ⊎ Prints (word_done pages word) (Some fault) middle after → (fault ≡ Output) ⊎ Prints (words_done words) (Some fault) before after
  done-fault fault (inl output) = inl output
  done-fault fault (inr prints) = inr (stopped fault prints)
