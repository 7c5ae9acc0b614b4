-- Numbers by their digits to a base, the least significant one first.
use Rattle.std.specs.Prelude.{◌≡◌, ℕ, zero, suc, ◌+◌, ◌*◌, ◌/◌, ◌%◌, ◌^◌, ◌<◌, ◌≤◌, List, [], ◌∷◌, ◌++◌, length, refl}
use Rattle.std.specs.Simd.Lanes.{Each1, digits_l, number_l}
use Rattle.std.proofs.Common.{arith, sym, ◌∙◌, ap}
use Rattle.std.proofs.Math.Arith.{mod-mul}
use Rattle.std.proofs.lemmas.Nat.{div_below, pow-add, pow_pos}
use Rattle.std.proofs.Math.Nat.{add-mul, add-mul-div_left, add-mul-mod_self_left, div-eq_of_lt, div-mul-le_self, mod-eq_of_lt, zero-add, zero-mul, suc-mul, pow-zero, pow-suc, mod-one, div-one, div-div-eq-div-mul, one-le-pow, mul-le-mul_left, mul-le-mul_right, mul_comm, mul-add}
use Rattle.std.proofs.Math.Pow.{pow_mono}

-- digits make their number again, modulo what is above so many
pub number-digits : (p n x : ℕ) → 0 < p → number_l p (digits_l p n x) ≡ x % p ^ n
number-digits p zero x some = sym (ap (λ (m : ℕ). x % m) (pow-zero p) ∙ mod-one x)
number-digits p (suc n) x some =
    let places = one-le-pow n p some in
    rw (number-digits p n (x / p) some, pow-suc p n, mod-mul x {m = p ^ n} {c = p} (omega arith) some)
    (omega (arith, mul_comm p (x / p % p ^ n)))

pub length-digits : (p n word : ℕ) → length (digits_l p n word) ≡ n
length-digits p zero word = refl
length-digits p (suc n) word = ap suc (length-digits p n (word / p))

-- one more digit is the next more significant one
pub digits-more : (b n x : ℕ) → digits_l (2 ^ b) (suc n) x ≡ digits_l (2 ^ b) n x ++ (x / 2 ^ (n * b) % 2 ^ b ∷ [])
digits-more b zero x = ap (λ (y : ℕ). y % 2 ^ b ∷ []) (sym (ap (λ (k : ℕ). x / 2 ^ k) (zero-mul b) ∙ div-one x))
digits-more b (suc n) x =
    let p = 2 ^ b in
    let places : b + n * b ≡ suc n * b = omega (arith, suc-mul n b) in
    ap (λ (l : List ℕ). x % p ∷ l)
    (digits-more b n (x / p) ∙ ap (λ (y : ℕ). digits_l p n (x / p) ++ (y % p ∷ []))
    (div-div-eq-div-mul x p (2 ^ (n * b)) ∙ ap (λ (m : ℕ). x / m) (sym (pow-add 2 b (n * b)) ∙ ap (λ (k : ℕ). 2 ^ k) places)))

-- a digit put above those of a number
pub digits-next : (b n word x : ℕ) → word < 2 ^ (n * b) → x < 2 ^ b → digits_l (2 ^ b) (suc n) (word + x * 2 ^ (n * b)) ≡ digits_l (2 ^ b) n word ++ (x ∷ [])
digits-next b zero word x before fits =
    let one : 2 ^ (0 * b) ≡ 1 = ap (λ (k : ℕ). 2 ^ k) (zero-mul b) in
    ap (λ (y : ℕ). y ∷ []) (ap (λ (y : ℕ). y % 2 ^ b) (rw one (omega arith)) ∙ mod-eq_of_lt fits)
digits-next b (suc n) word x before fits =
    let p = 2 ^ b in
    let q = 2 ^ (n * b) in
    let some = pow_pos b in
    let places : suc n * b ≡ b + n * b = omega (arith, suc-mul n b) in
    let weight : 2 ^ (suc n * b) ≡ p * q = ap (λ (k : ℕ). 2 ^ k) places ∙ pow-add 2 b (n * b) in
    let all : word + x * 2 ^ (suc n * b) ≡ word + p * (x * q) = rw weight (omega arith) in
    let low = ap (λ (y : ℕ). y % p) all ∙ add-mul-mod_self_left word p (x * q) in
    let high = ap (λ (y : ℕ). y / p) all ∙ add-mul-div_left word (x * q) some in
    let rest = div_below word p q some (rw (weight, mul_comm p q) at before) in
    (λ i. low i ∷ digits_l p (suc n) (high i)) ∙ ap (λ (l : List ℕ). word % p ∷ l) (digits-next b n (word / p) x rest fits)

-- digits below the base are those of their number
pub digits-number : (p : ℕ) (xs : List ℕ) → Each1 (λ x. x < p) xs → digits_l p (length xs) (number_l p xs) ≡ xs
digits-number p [] each = refl
digits-number p (x ∷ xs) each =
    let some : 0 < p = omega (arith, each.0) in
    let low = add-mul-mod_self_left x p (number_l p xs) ∙ mod-eq_of_lt each.0 in
    let high = add-mul-div_left x (number_l p xs) some ∙ ap (λ (y : ℕ). y + number_l p xs) (div-eq_of_lt each.0) ∙ zero-add (number_l p xs) in
    (λ i. low i ∷ digits_l p (length xs) (high i)) ∙ ap (λ (l : List ℕ). x ∷ l) (digits-number p xs each.1)

-- digits below the base make a number of so many
pub number-below : (p : ℕ) (xs : List ℕ) → Each1 (λ x. x < p) xs → number_l p xs < p ^ length xs
number-below p [] each = rw (pow-zero p) (omega arith)
number-below p (x ∷ xs) each =
    let rest : number_l p xs + 1 ≤ p ^ length xs = omega (arith, number-below p xs each.1) in
    let most = mul-le-mul_left p rest in
    rw (pow-suc p (length xs)) (omega (arith, each.0, mul-add p (number_l p xs) 1, mul_comm p (p ^ length xs)))

-- a digit above the `step` that are in a word of 64 bits
module _ (b step word x : ℕ) (more : step < 64 / b) (before : word < 2 ^ (step * b)) (fits : x < 2 ^ b) where
  pub digit-most : 2 ^ ((step + 1) * b) ≤ 2 ^ 64
  digit-most =
      let all = div-mul-le_self 64 b in
      let order = mul-le-mul_right {m = step + 1} {n = 64 / b} b (omega arith) in
      pow_mono {i = (step + 1) * b} {j = 64} (omega arith)

  pub digit-above : word + x * 2 ^ (step * b) < 2 ^ ((step + 1) * b)
  digit-above =
      let places : (step + 1) * b ≡ step * b + b = omega (arith, add-mul step 1 b) in
      let order = mul-le-mul_right {m = x + 1} {n = 2 ^ b} (2 ^ (step * b)) (omega arith) in
      rw (places, pow-add 2 (step * b) b) (omega (arith, add-mul x 1 (2 ^ (step * b))))

  pub digit-placed : x * 2 ^ (step * b) % 2 ^ 64 ≡ x * 2 ^ (step * b)
  digit-placed = mod-eq_of_lt (let all = digit-most in let last = digit-above in omega arith)
