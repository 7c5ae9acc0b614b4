-- Places of fields.
use Rattle.std.proofs.Common.{◌≡◌, ℕ, ◌+◌, ◌<◌, Bool, cond, not, List, [], ◌∷◌, ◌++◌, get_or, length, map, Some, refl, sym, ap, subst, ◌∙◌, arith, below_more}
use Rattle.std.specs.Prelude.{All, position}
use Rattle.std.specs.List.{position_or_len}
use Rattle.std.specs.Str.{bytes_eq}
use Rattle.std.proofs.lemmas.List.{get_or-map, get_or_append_left, get_or_default, get_or_push, length-map}
use Rattle.std.proofs.lemmas.List.Quantifiers.{position-Some}
use Rattle.bitrecord.specs.Layouts.{field_at, no_field}
use Rattle.bitvec.specs.Types.{Window}
use Rattle.packet.specs.Packets.{Place, place, places_of, windows_of}
use Rattle.packet.specs.Arguments.{Named}
use Rattle.packet.specs.Changes.{CanChange}
use Rattle.packet.specs.Resolved.{AreChanges, IsChange, asked_at, place_of}
use Rattle.packet.specs.declared.changes.Change.{Change}
use Rattle.packet.specs.declared.field.Field.{Field}

-- the first place of what is made of a list
position_or_len-map : {X Y : Type 0} (p : Y → Bool) (f : X → Y) (xs : List X) → position_or_len p (map f xs) ≡ position_or_len (λ (x : X). p (f x)) xs
position_or_len-map p f [] = refl
position_or_len-map p f (x ∷ xs) = ap (λ (n : ℕ). cond (not (p (f x))) (1 + n) 0) (position_or_len-map p f xs)

pub place-of : (fields : List Field) (name : List ℕ) → position (λ (field : Field). bytes_eq field.name.now name) fields ≡ place_of (places_of fields) name
place-of fields name =
    let here = position_or_len-map (λ (field : Place). bytes_eq field.name name) place fields in
    let size = length-map fields place in
    rw (here, size) refl

pub place-below : (fields : List Field) (name : List ℕ) (n : ℕ) → place_of (places_of fields) name ≡ Some n → n < length fields
place-below fields name n is =
    let size = length-map fields place in
    let low = (position-Some (λ (field : Place). bytes_eq field.name name) (places_of fields) n (record { name = []; window = no_field }) is).0 in
    omega arith

-- the window of a field
pub window-at : (fields : List Field) (n : ℕ) (d : Field) → n < length fields → field_at (windows_of (places_of fields)) n ≡ (get_or fields n d).window
window-at fields n d low =
    get_or-map (λ (field : Place). field.window) (places_of fields) n (place d) no_field (omega (arith, length-map fields place))
    ∙ ap (λ (field : Place). field.window) (get_or-map place fields n d (place d) low)

-- the windows of fields and of their places
pub windows-of : (fields : List Field) → windows_of (places_of fields) ≡ map (λ (field : Field). field.window) fields
windows-of [] = refl
windows-of (field ∷ fields) = ap (λ (l : List Window). field.window ∷ l) (windows-of fields)

-- one more change
pub each-change : (fields : List Place) (list : List Named) (changes : List Change) (change : Change) (n : ℕ) → length changes ≡ n
    → ((k : ℕ) → k < n → IsChange fields (asked_at list k) (get_or changes k (record { number = 0; value = 0 }))) → IsChange fields (asked_at list n) change
    → (k : ℕ) → k < n + 1 → IsChange fields (asked_at list k) (get_or (changes ++ change ∷ []) k (record { number = 0; value = 0 }))
each-change fields list changes change n long before here =
    below_more (λ (k : ℕ). IsChange fields (asked_at list k) (get_or (changes ++ change ∷ []) k (record { number = 0; value = 0 }))) n
    (λ k low. subst (IsChange fields (asked_at list k)) (sym (get_or_append_left changes (change ∷ []) (record { number = 0; value = 0 }) k (omega arith))) (before k low))
    (subst (IsChange fields (asked_at list n)) (sym (get_or_push changes change (record { number = 0; value = 0 }) n long)) here)

-- changes that can be made
pub all-can : (fields : List Place) (list : List Named) (changes : List Change) → AreChanges fields list changes → All (CanChange (windows_of fields)) changes
all-can fields list changes are k d low =
    let count = are.count in
    subst (CanChange (windows_of fields)) (get_or_default changes k (record { number = 0; value = 0 }) d low) (are.each k (omega arith)).can
