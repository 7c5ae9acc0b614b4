-- What a caller knows of the bits that its closure answered, and why the closure may be called.
use Rattle.std.specs.Prelude.{◌≡◌, ℕ, ◌+◌, ◌<◌, Bool, List, [], ◌∷◌, ◌++◌, length, map, refl}
use Rattle.std.specs.Array.{FillsFrom, index_steps}
use Rattle.std.specs.Fn.{Called, Mut, Takes, always_mut}
use Rattle.std.specs.Iterator.{Yields}
use Rattle.std.specs.List.{FoldsTo, range_with_len}
use Rattle.std.proofs.Common.{arith, sym, ◌∙◌, ap, subst}
use Rattle.std.proofs.lemmas.List.{length-append}
use Rattle.bitvec_domain.specs.Asked.{AnswersTo, CallableTo}

module _ {F A : Type 0} (g : Mut F A Bool) (asked : ℕ → A) where
  -- A call of the closure with what is asked at `i`, as `p`, answered `bit` and left the closure as `q`.
  abbrev R : F → ℕ → Bool → F → Type 0
  R p i bit q = Called g p (asked i) bit q

  fills-by : (f : F) (h : ℕ → Bool) → ((i : ℕ) (bit : Bool) (q : F) → R f i bit q → (q ≡ f) × (bit ≡ h i)) → (k : ℕ) (new : List Bool) (last : F) → FillsFrom R f k new last → new ≡ map h (range_with_len k (length new))
  fills-by f h acts k [] last calls = refl
  fills-by f h acts k (bit ∷ new) last calls =
      let same = acts k bit calls.0 calls.1 in
      let more = fills-by f h acts (k + 1) new last (subst (λ (p : F). FillsFrom R p (k + 1) new last) same.0 calls.2) in
      ap (λ (b : Bool). b ∷ new) same.1 ∙ ap (λ (l : List Bool). h k ∷ l) more

  -- A closure whose answer is a function of the index answers with that function's values.
  pub answers-by : (f : F) (h : ℕ → Bool) (new : List Bool) → ((i : ℕ) (bit : Bool) (q : F) → R f i bit q → (q ≡ f) × (bit ≡ h i)) → AnswersTo g asked f new → new ≡ map h (range_with_len 0 (length new))
  answers-by f h new acts fills = fills-by f h acts 0 new fills.0 fills.1

  -- J holds of the answers so far and of the state after them, where each call keeps it
  module _ (J : List Bool → F → Type 0) (keeps : (done : List Bool) (p : F) (bit : Bool) (q : F) → J done p → R p (length done) bit q → J (done ++ (bit ∷ [])) q) where
    calls-keep : (n : ℕ) (xs : List ℕ) (k t : ℕ) (done : List Bool) (p q : F) → length done ≡ k → J done p → Yields (index_steps n) k xs t → FoldsTo (λ p i q. (bit : Bool) × R p i bit q) p xs q → (all : List Bool) × (length all ≡ t) × J all q
    calls-keep n [] k t done p q at held gave calls = (done, at ∙ gave, subst (J done) calls held)
    calls-keep n (x ∷ xs) k t done p q at held gave calls =
        let call = calls.1 in
        let here : x ≡ length done = gave.1.1 ∙ sym at in
        let next = keeps done p call.0 calls.0 held (subst (λ (i : ℕ). R p i call.0 calls.0) here call.1) in
        calls-keep n xs gave.0 t (done ++ (call.0 ∷ [])) calls.0 q (omega (arith, at, gave.1.2, length-append done (call.0 ∷ []))) next gave.2 calls.2

    -- A closure may be called at each index where every call keeps a fact under which it may be called.
    pub callable-by : (f : F) (n : ℕ) → J [] f → ((done : List Bool) (p : F) → J done p → length done < n → Takes g p (asked (length done))) → CallableTo g asked f n
    callable-by f n first allows = record {
      at = λ xs t q x u gave calls more.
          let all = calls-keep n xs 0 t [] f q refl first gave calls in
          let here : length all.0 ≡ x = all.1 ∙ sym more.1 in
          subst (λ (i : ℕ). Takes g q (asked i)) here (allows all.0 q all.2 (omega (arith, all.1, more.0)));
    }

  -- A closure that may always be called may be called at each index below `n`.
  pub callable-always : (f : F) (n : ℕ) → always_mut g f → CallableTo g asked f n
  callable-always f n always =
      callable-by (λ done p. always_mut g p) (λ done p bit q held call. record { at = λ xs. (held.at (asked (length done) ∷ xs)).1 bit q call }) f n always (λ done p held below. (held.at (asked (length done) ∷ [])).0)
