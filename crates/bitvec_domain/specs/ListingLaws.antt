-- The text of a list with one item more.
use Rattle.std.specs.Prelude.{◌≡◌, ℕ, zero, suc, ◌+◌, ◌<◌, ◌==◌, false, List, ◌++◌, length, take, slice_index_or}
use Rattle.std.specs.List.{join_by}
use Rattle.std.proofs.Common.{◌∙◌, append_assoc, arith, rules, sym}
use Rattle.std.proofs.Concat.{separated_first, separated_more}
use Rattle.bitvec_domain.specs.Listing.{comma, separator}

-- The text of the first `i` items, a separator and the item's text at `i` are the text of the first `i + 1` items.
pub join_by-more : {X : Type 0} (text : X → List ℕ) (items : List X) (i : ℕ) (d : X) → i < length items
    → join_by text comma (take i items) ++ (separator i ++ text (slice_index_or items i d)) ≡ join_by text comma (take (i + 1) items)
join_by-more text items zero d inside = separated_first text comma items 0 d (omega arith) inside
join_by-more text items (suc i) d inside =
    let later : (suc i == 0) ≡ false = search rules in
    rw later (sym (append_assoc (join_by text comma (take (suc i) items)) comma (text (slice_index_or items (suc i) d))) ∙ separated_more text comma items (suc i) d (omega arith) inside)
