-- A window that a list is written into from its first place on, a value at a time.
use Rattle.std.specs.Prelude.{◌≡◌, ℕ, ◌+◌, ◌<◌, Bool, false, List, ◌++◌, length, take, drop, slice_set, slice_index_or}
use Rattle.std.proofs.Common.{arith, rules, ◌∙◌, ap, ⊎_elim}
use Rattle.std.proofs.lemmas.Bool.{cases_eq}
use Rattle.std.proofs.lemmas.Grind.{get_or-set_at}
use Rattle.std.proofs.lemmas.List.{same_lists, get_or_default, places}
use Rattle.bitvec_base.specs.declared.window.Window.{Window}
use Rattle.bitvec_base.specs.Memory.{HasWindow, Writes, list_in}
use Rattle.bitvec_base.specs.WritesLaws.{length-list, Writes-holds, Writes-is, Writes-start, Writes-next}

-- the list with its first i values those of `new`
unfoldable pub overwritten : {X : Type 0} → ℕ → List X → List X → List X
overwritten i new list = take i new ++ drop i list

overwritten-none : {X : Type 0} (new list : List X) → overwritten 0 new list ≡ list
unfolding overwritten
overwritten-none new list = same_lists _ _ (search (rules, places)) (λ k d inside. grind (arith, places))

overwritten-all : {X : Type 0} (i : ℕ) (new list : List X) → i ≡ length new → length list ≡ length new → overwritten i new list ≡ new
unfolding overwritten
overwritten-all i new list all long = same_lists _ _ (search (rules, places)) (λ k d inside. grind (arith, places))

overwritten-next : {X : Type 0} (i : ℕ) (new list : List X) (x d : X) → length list ≡ length new → i < length new → x ≡ slice_index_or new i d → slice_set (overwritten i new list) i x ≡ overwritten (i + 1) new list
unfolding overwritten
overwritten-next i new list x d long h is = same_lists _ _ (search (rules, places)) (λ k e inside.
    ⊎_elim
    (λ here. get_or-set_at _ i k x e here (search (rules, places)) ∙ is ∙ get_or_default new i d e h ∙ rw here (grind (arith, places)))
    (λ other. grind (arith, places))
    (cases_eq k i))

overwritten-rest : {X : Type 0} (i : ℕ) (new list : List X) (d : X) → length list ≡ length new → i < length new → slice_index_or (overwritten i new list) i d ≡ slice_index_or list i d
unfolding overwritten
overwritten-rest i new list d long h = grind (arith, places)

-- ---- a window that holds the first i values of a list

pub transfer-none : {b : ℕ} {at : ℕ → ℕ → ℕ} {xs : List ℕ} {window : Window} (new : List Bool) → HasWindow b xs window → Writes b at xs xs window (overwritten 0 new (list_in b at xs window))
transfer-none {b} {at} {xs} {window} new has = Writes-start {at = at} has (overwritten-none new (list_in b at xs window))

-- the next one
pub transfer-next : {b : ℕ} {at : ℕ → ℕ → ℕ} {old mid now : List ℕ} {window : Window} (new : List Bool) {i : ℕ} {x : Bool} → HasWindow b old window → length new ≡ window.len → i < window.len
    → Writes b at old mid window (overwritten i new (list_in b at old window)) → Writes b at mid now window (slice_set (list_in b at mid window) i x) → x ≡ slice_index_or new i false
    → Writes b at old now window (overwritten (i + 1) new (list_in b at old window))
transfer-next {b} {at} {old} {mid} {now} {window} new {i} {x} has long h before after is =
    let old-long = length-list at has in
    Writes-next (λ l. slice_set l i x) has before after (overwritten-next i new (list_in b at old window) x false (omega arith) (omega arith) is)

-- the window's own from there on are as they were
pub transfer-rest : {b : ℕ} {at : ℕ → ℕ → ℕ} {old mid : List ℕ} {window : Window} (new : List Bool) {i : ℕ} → HasWindow b old window → length new ≡ window.len → i < window.len
    → Writes b at old mid window (overwritten i new (list_in b at old window)) → slice_index_or (list_in b at mid window) i false ≡ slice_index_or (list_in b at old window) i false
transfer-rest {b} {at} {old} {mid} {window} new {i} has long h before =
    let old-long = length-list at has in
    ap (λ l. slice_index_or l i false) (Writes-holds has before)
    ∙ overwritten-rest i new (list_in b at old window) false (omega arith) (omega arith)

pub transfer-all : {b : ℕ} {at : ℕ → ℕ → ℕ} {old now : List ℕ} {window : Window} {new : List Bool} {i : ℕ} → HasWindow b old window → length new ≡ window.len → i ≡ window.len
    → Writes b at old now window (overwritten i new (list_in b at old window)) → Writes b at old now window new
transfer-all {b} {at} {old} {now} {window} {new} {i} has long all writes =
    let old-long = length-list at has in
    Writes-is writes (overwritten-all i new (list_in b at old window) (omega arith) (omega arith))
