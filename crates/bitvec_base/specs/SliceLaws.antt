-- Slices of a list: those that meet, those of one value, and those that are a whole beginning or end.
use Rattle.std.specs.Prelude.{◌≡◌, ℕ, ◌+◌, ◌-◌, ◌<◌, ◌≤◌, List, [], ◌∷◌, ◌++◌, length, map, take, drop, slice_range, slice_index_or}
use Rattle.std.proofs.Common.{arith, rules, sym, ◌∙◌, ap}
use Rattle.std.proofs.lemmas.List.{same_lists, places, take-map, drop-map}

-- a slice of nothing, and of all
pub range-none : {X : Type 0} (list : List X) (a e : ℕ) → e ≤ a → slice_range list a e ≡ []
range-none list a e h = let none : e - a ≡ 0 = omega arith in ap (λ (n : ℕ). take n (drop a list)) none

pub range-all : {X : Type 0} (list : List X) (e : ℕ) → length list ≤ e → slice_range list 0 e ≡ list
range-all list e h = same_lists _ _ (search (rules, places)) (λ k d inside. grind (arith, places))

-- a slice from the start, and one up to the end
pub range-from_start : {X : Type 0} (list : List X) (n e : ℕ) → e ≡ n → slice_range list 0 e ≡ take n list
range-from_start list n e h = same_lists _ _ (search (rules, places)) (λ k d inside. grind (arith, places))

pub range-to_end : {X : Type 0} (list : List X) (a e : ℕ) → length list ≤ e → slice_range list a e ≡ drop a list
range-to_end list a e h = same_lists _ _ (search (rules, places)) (λ k d inside. grind (arith, places))

-- the rest of a beginning
pub range-rest : {X : Type 0} (list : List X) (a e : ℕ) → drop a (take e list) ≡ slice_range list a e
range-rest list a e = same_lists _ _ (grind (arith, places)) (λ k d inside. grind (arith, places))

-- the two parts of a list
pub range-of_front : {X : Type 0} (front rest : List X) → slice_range (front ++ rest) 0 (length front) ≡ front
range-of_front front rest = same_lists _ _ (search (rules, places)) (λ k d inside. grind (arith, places))

pub range-of_rest : {X : Type 0} (front rest : List X) → slice_range (front ++ rest) (length front) (length (front ++ rest)) ≡ rest
range-of_rest front rest = same_lists _ _ (search (rules, places)) (λ k d inside. grind (arith, places))

-- a slice of one value, and with one value more behind or before it
pub range-one : {X : Type 0} (list : List X) (i : ℕ) (d : X) → i < length list → slice_range list i (i + 1) ≡ slice_index_or list i d ∷ []
range-one list i d within = same_lists _ _ (search (rules, places)) (λ k e inside. grind (arith, places))

pub range-push : {X : Type 0} (list : List X) (a e : ℕ) (d : X) → a ≤ e → e < length list → slice_range list a e ++ (slice_index_or list e d ∷ []) ≡ slice_range list a (e + 1)
range-push list a e d order inside = same_lists _ _ (search (rules, places)) (λ k c below. grind (arith, places))

pub range-front : {X : Type 0} (list : List X) (a e : ℕ) (d : X) → a < e → e ≤ length list → slice_index_or list a d ∷ slice_range list (a + 1) e ≡ slice_range list a e
range-front list a e d order inside = same_lists _ _ (search (rules, places)) (λ k c below. grind (arith, places))

-- slices that meet
pub range-join : {X : Type 0} (list : List X) (a m e : ℕ) → a ≤ m → m ≤ e → e ≤ length list → slice_range list a m ++ slice_range list m e ≡ slice_range list a e
range-join list a m e low high within = same_lists _ _ (search (rules, places)) (λ k d inside. grind (arith, places))

-- a slice between equal ends
pub range-same : {X : Type 0} (list : List X) (a e c f : ℕ) → a ≡ c → e ≡ f → slice_range list a e ≡ slice_range list c f
range-same list a e c f start end = ap (λ (n : ℕ). slice_range list n e) start ∙ ap (λ (n : ℕ). slice_range list c n) end

-- what is made of each value of a slice is a slice of what is made of each
pub range-map : {X Y : Type 0} (f : X → Y) (list : List X) (a e : ℕ) → map f (slice_range list a e) ≡ slice_range (map f list) a e
range-map f list a e = sym (ap (λ (l : List _). take (e - a) l) (drop-map f a list) ∙ take-map f (e - a) (drop a list))
