-- Memories as lists of bits: their first bits, and zeros behind and around.
use Rattle.std.specs.Prelude.{◌≡◌, ℕ, ◌+◌, ◌-◌, ◌<◌, ◌≤◌, suc, Bool, false, List, [], ◌∷◌, ◌++◌, drop, length, replicate, slice_index_or, slice_range, slice_set, take, refl}
use Rattle.std.proofs.Common.{◌∙◌, ap, arith, length-append, length-drop, length-take, sym}
use Rattle.std.proofs.lemmas.List.{append-nil, drop-append-le, drop_all, drop_at, drop-drop, drop-replicate, length-replicate, length-take-le, replicate-append-replicate, take-append-drop, take-append-le, take-replicate, take-take, take_all, take_more}
use Rattle.bitvec_base.specs.SliceLaws.{range-rest}
use Rattle.bitvec_base.specs.Window.{write_at}
use Rattle.bitvec_base.specs.WriteLaws.{drop-write_at, take-write_at, take-written}

-- a list of which a range stands between zeros, as a write into zeros
pub write_around : (list : List Bool) (n s e : ℕ) → length list ≡ n → s ≤ e → e ≤ n → take s list ≡ replicate s false → drop e list ≡ replicate (n - e) false
    → list ≡ write_at (replicate n false) s (slice_range list s e)
unfolding write_at
write_around list n s e long order inside before behind =
    let range = slice_range list s e in
    let size : length range ≡ e - s = length-take (e - s) (drop s list) ∙ omega (arith, length-drop s list) in
    let end : s + length range ≡ e = omega arith in
    let back : s + (e - s) ≡ e = omega arith in
    let rest : drop s list ≡ range ++ drop e list = sym (take-append-drop (e - s) (drop s list)) ∙ ap (λ (l : List Bool). range ++ l) (drop-drop (e - s) s list ∙ ap (λ (k : ℕ). drop k list) back) in
    sym (take-append-drop s list)
    ∙ ap (λ (l : List Bool). l ++ drop s list) (before ∙ sym (take-replicate s n false (omega arith)))
    ∙ ap (λ (l : List Bool). take s (replicate n false) ++ l) (rest ∙ ap (λ (l : List Bool). range ++ l) (behind ∙ sym (rw end (drop-replicate e n false))))

module _ (list range : List Bool) (n s : ℕ) (fits : s + length range ≤ n) (is : list ≡ write_at (replicate n false) s range) where
  pub zeros_before : take s list ≡ replicate s false
  zeros_before =
      let places = length-replicate n false in
      ap (take s) is ∙ take-write_at (replicate n false) s range (omega arith) ∙ take-replicate s n false (omega arith)

  pub zeros_behind : (e : ℕ) → e ≡ s + length range → drop e list ≡ replicate (n - e) false
  zeros_behind e end =
      let places = length-replicate n false in
      rw end (ap (drop (s + length range)) is ∙ drop-write_at (replicate n false) s range (omega arith) ∙ drop-replicate (s + length range) n false)

-- behind the first e bits of a list a list was written, over zeros that were added
module _ (old new list : List Bool) (e r : ℕ) (inside : e ≤ length old) (is : new ≡ write_at (old ++ replicate r false) e list) where
  pub grown-front : take (e + length list) new ≡ take e old ++ list
  grown-front =
      let both : length (old ++ replicate r false) ≡ length old + length (replicate r false) = length-append old (replicate r false) in
      ap (take (e + length list)) is
      ∙ take-written (old ++ replicate r false) e (e + length list) list (omega arith) refl
      ∙ ap (λ (l : List Bool). l ++ list) (take-append-le e old (replicate r false) inside)

  pub grown-zeros : drop e old ≡ replicate (length old - e) false → drop (e + length list) new ≡ replicate (length old + r - (e + length list)) false
  grown-zeros behind =
      let both : length (old ++ replicate r false) ≡ length old + length (replicate r false) = length-append old (replicate r false) in
      ap (drop (e + length list)) is
      ∙ drop-write_at (old ++ replicate r false) e list (omega arith)
      ∙ sym (drop-drop (length list) e (old ++ replicate r false))
      ∙ ap (drop (length list)) (drop-append-le e old (replicate r false) inside ∙ ap (λ (l : List Bool). l ++ replicate r false) behind ∙ replicate-append-replicate (length old - e) r false)
      ∙ drop-replicate (length list) (length old - e + r) false
      ∙ ap (λ (n : ℕ). replicate n false) (omega arith)

-- the first n bits of a list, with zeros from e on
module _ (old new : List Bool) (e n : ℕ) (inside : e ≤ n) (fits : n ≤ length old) (is : new ≡ write_at (take n old) e (replicate (n - e) false)) where
  pub cut-front : take e new ≡ take e old
  cut-front =
      let long = length-take-le n old fits in
      ap (take e) is ∙ take-write_at (take n old) e (replicate (n - e) false) (omega arith) ∙ take-take e n old inside

  pub cut-zeros : drop e new ≡ replicate (n - e) false
  unfolding write_at
  cut-zeros =
      let long = length-take-le n old fits in
      let front = length-take-le e (take n old) (omega arith) in
      let many = length-replicate (n - e) false in
      ap (drop e) is
      ∙ drop_at (take e (take n old)) (replicate (n - e) false ++ drop (e + length (replicate (n - e) false)) (take n old)) e front
      ∙ ap (λ (l : List Bool). replicate (n - e) false ++ l) (drop_all (e + length (replicate (n - e) false)) (take n old) (omega arith))
      ∙ append-nil (replicate (n - e) false)

-- the first n bits of a list in which the bit before the place e became 0
module _ (old new : List Bool) (last n : ℕ) (inside : last ≤ n) (fits : n ≤ length old) (is : new ≡ take n (write_at old last (false ∷ []))) where
  pub taken-front : take last new ≡ take last old
  taken-front = ap (take last) is ∙ take-take last n (write_at old last (false ∷ [])) inside ∙ take-write_at old last (false ∷ []) (omega arith)

  pub taken-zeros : drop (last + 1) old ≡ replicate (length old - (last + 1)) false → last < length old → drop last new ≡ replicate (n - last) false
  unfolding write_at
  taken-zeros behind below =
      let front = length-take-le last old (omega arith) in
      let next : last + length (false ∷ []) ≡ last + 1 = refl in
      let rest : drop last (write_at old last (false ∷ [])) ≡ replicate (length old - last) false =
      drop_at (take last old) (false ∷ drop (last + 1) old) last front
      ∙ ap (λ (l : List Bool). false ∷ l) behind
      ∙ (let more : suc (length old - (last + 1)) ≡ length old - last = omega arith in ap (λ (k : ℕ). replicate k false) more) in
      ap (drop last) is ∙ range-rest (write_at old last (false ∷ [])) last n ∙ ap (take (n - last)) rest ∙ take-replicate (n - last) (length old - last) false (omega arith)

-- a list of one value, which became another
pub one-set : {X : Type 0} (list : List X) (x : X) → length (slice_set list 0 x) ≡ 1 → slice_set list 0 x ≡ x ∷ []
one-set [] x long = absurd (omega (arith, long))
one-set (y ∷ []) x long = refl
one-set (y ∷ z ∷ zs) x long = absurd (omega (arith, long))

module _ {X : Type 0} (list : List X) where
  -- a list cut, or filled up
  pub resized-fewer : (n : ℕ) (x : X) → n ≤ length list → take n list ++ replicate (n - length list) x ≡ take n list
  resized-fewer n x order =
      let none : n - length list ≡ 0 = omega arith in
      rw none (append-nil (take n list))

  pub resized-more : (n : ℕ) (x : X) → length list ≤ n → take n list ++ replicate (n - length list) x ≡ list ++ replicate (n - length list) x
  resized-more n x order = ap (λ (front : List X). front ++ replicate (n - length list) x) (take_all n list order)

  -- a list and its last value
  pub with-last : (n : ℕ) (d : X) → length list ≡ n + 1 → list ≡ take n list ++ slice_index_or list n d ∷ []
  with-last n d long = sym (take_all (n + 1) list (omega arith)) ∙ take_more list n d (omega arith)
