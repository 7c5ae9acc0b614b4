-- Words that are bytes, in the definitions' words.
use Rattle.std.proofs.Common.{◌≡◌, ℕ, ◌+◌, ◌<◌, suc, List, [], ◌∷◌, ◌++◌, get_or, length, map, take, Option, Some, ap, sym, ◌∙◌, arith}
use Rattle.std.proofs.Math.Seq.{take-suc}
use Rattle.std.proofs.lemmas.List.{map-append}
use Rattle.canframe.specs.Program.{AreBytes, byte_of}

pub bytes-more : (words : List (List ℕ)) (i n : ℕ) (bytes : List ℕ) → AreBytes (take i words) bytes → i < length words → byte_of (get_or words i []) ≡ Some n → AreBytes (take (i + 1) words) (bytes ++ n ∷ [])
bytes-more words i n bytes are inside is =
    let next : i + 1 ≡ suc i = omega arith in
    ap (λ (k : ℕ). map byte_of (take k words)) next ∙ ap (map byte_of) (take-suc words i [] inside)
    ∙ map-append byte_of (take i words) (get_or words i [] ∷ []) ∙ ap (λ (l : List (Option ℕ)). l ++ byte_of (get_or words i []) ∷ []) are
    ∙ ap (λ (o : Option ℕ). map Some bytes ++ o ∷ []) is ∙ sym (map-append Some bytes (n ∷ []))
