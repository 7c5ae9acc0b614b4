-- What is printed of a list, one item after the other.
use Rattle.std.proofs.Common.{ℕ, ◌+◌, ◌<◌, List, [], Option, None, Some, OnOk, Result, Ok, Err, get_or, length, take, sym, ap, subst, ◌∙◌}
use Rattle.std.proofs.KnownBytes.{Appends-trans}
use Rattle.std.proofs.lemmas.List.{flat_map_more, take_more}
use Rattle.std.specs.Io.KnownBytes.{Appends, Keeps}
use Rattle.std.specs.List.{flat_map}

pub printed-more : {X : Type 0} (text : X → List ℕ) (items : List X) (n : ℕ) (d : X) (before now after : Option (List ℕ)) → n < length items
    → Appends before now (flat_map text (take n items)) → Appends now after (text (get_or items n d)) → Appends before after (flat_map text (take (n + 1) items))
printed-more text items n d before now after low far one =
    subst (Appends before after) (flat_map_more text [] (take n items) (get_or items n d) ∙ ap (flat_map text) (sym (take_more items n d low)))
    (Appends-trans before now after _ _ far one)

-- a flush prints nothing
pub printed-flushed : {T E : Type 0} (flush : Result T E) (before now after : Option (List ℕ)) (text : List ℕ) → Appends before now text → Keeps now after → OnOk flush (Appends before after text)
printed-flushed (Err e) before now after text far kept = tt
printed-flushed (Ok t) None now after text far kept = tt
printed-flushed (Ok t) (Some x) None after text far kept = absurd far
printed-flushed (Ok t) (Some x) (Some y) None text far kept = absurd kept
printed-flushed (Ok t) (Some x) (Some y) (Some z) text far kept = kept ∙ far
