-- The pieces that a `for` over a text's parts or lines goes through.
use Rattle.std.proofs.Common.{◌≡◌, ℕ, ◌<◌, eqb, true, List, length, get_or, ap, ◌∙◌, lit<, zero-add, arith}
use Rattle.std.specs.declared.iter.Enumerate.{Enumerate}
use Rattle.std.specs.declared.str.Lines.{Lines}
use Rattle.std.specs.declared.str.Split.{Split}
use Rattle.std.specs.Iterator.Adapters.{enumerate_source, enumerate_count, enumerate_steps}
use Rattle.std.specs.List.{slice_split, enumerate_from}
use Rattle.std.specs.Str.Iter.{split_steps, split_text, split_has_more, split_pattern, lines_steps, lines_rest}
use Rattle.std.specs.Str.Lines.{lines}
use Rattle.std.specs.Str.Pattern.{FindsChar}
use Rattle.std.proofs.lemmas.Iterator.{YieldsList}
use Rattle.std.proofs.lemmas.Iterator.Consumers.{YieldsList-from_enumerate}
use Rattle.std.proofs.lemmas.Iterator.Splits.{YieldsList-from_str_split, YieldsList-from_lines}
use Rattle.std.proofs.lemmas.List.FromFn.{length-enumerate_from, get_or-enumerate_from}

-- started at what `split` gave, at a comma
pub YieldsList-from_commas : {s t : Split ℕ} (text : List ℕ) → s ≡ t → split_text t ≡ text → split_has_more t ≡ true → split_pattern t ≡ 44
    → YieldsList (split_steps FindsChar (λ a b. b ≡ a)) (λ piece. piece.now) s (slice_split (λ byte. eqb byte 44) text)
YieldsList-from_commas text start whole more pattern =
    YieldsList-from_str_split 44 text (lit< tt) (ap split_text start ∙ whole) (ap split_has_more start ∙ more) (ap split_pattern start ∙ pattern)

-- the lines of a text with their indices, started at what `lines().enumerate()` gave
pub YieldsList-from_numbered : {s t : Enumerate Lines} {l : Lines} (text : List ℕ) → s ≡ t → enumerate_source t ≡ l → enumerate_count t ≡ 0 → lines_rest l ≡ text
    → YieldsList {B = ℕ × List ℕ} (enumerate_steps lines_steps) (λ p. (p.0, p.1.now)) s (enumerate_from 0 (lines text))
YieldsList-from_numbered text start source count rest =
    YieldsList-from_enumerate (YieldsList-from_lines text (ap lines_rest (ap enumerate_source start ∙ source) ∙ rest)) (ap enumerate_count start ∙ count)

-- a turn's line, and its index
pub numbered_turn : (all : List (List ℕ)) (n index : ℕ) (line : List ℕ) → n < length (enumerate_from 0 all) → ◌≡◌ {A = ℕ × List ℕ} (index, line) (get_or (enumerate_from 0 all) n (index, line))
    → (n < length all) × (index ≡ n) × (line ≡ get_or all n line)
numbered_turn all n index line within is =
    let inside : n < length all = omega (arith, length-enumerate_from {X = List ℕ} 0 all) in
    let parts = is ∙ get_or-enumerate_from 0 all n (index, line) inside in
    (inside, ap (λ p. p.0) parts ∙ zero-add n, ap (λ p. p.1) parts)
