-- What the type parameters of a lender bring into its method's signature and code.
--     Arity            how many they are, and what their lifetimes owe
--     of_two, of_three, of_five     of a struct over T and O, over T, O and C, and over T, O, P, W and L, which holds a `&'a mut [T]`
--     lived            the facts before an assertion, one after the other;  ⊢ lived facts P → P
use Prim.Native.Nat.{ℕ, suc}
use mathlib.Core.List.{List, [], ◌∷◌}
use seplogic.Ra.Ura.{Ura}
use base.Logic.{SProp, ent, sep, id⊢, via, snd∗}
use mir.Syntax.{Tys, named, ty_param, tcons, tnil}
use contract.BorrowLft.{◌⊑◌}
use contract.Lifetimes.{Lfts, Outlives}
use contract.Monad.{fact}
use denote.RattleType.{RattleType}

-- `more`: the lifetimes behind the method's own and the struct's `'a`, one a type parameter. `bounds` and `coded` have what
-- outlives what behind `'a: 'self`, which comes first; `facts` what the method takes of the types, and `args` the types as the code names them
pub record Arity : Type 2 where
  pub more : ℕ
  pub bounds : List (Outlives (suc (suc more)))
  pub coded : List (ℕ × ℕ)
  pub facts : Lfts (suc (suc more)) → List (Type 0)
  pub args : Tys

-- The arity of a struct over `T` and `O`.
abbrev pub of_two : RattleType → RattleType → Arity
of_two T O = record {
  more = 2;
  bounds = record { long = 2; long_ok = tt; short = named 0; short_ok = tt } ∷ record { long = 3; long_ok = tt; short = named 0; short_ok = tt }
      ∷ record { long = 2; long_ok = tt; short = named 1; short_ok = tt } ∷ [];
  coded = (2, 0) ∷ (3, 0) ∷ (2, 1) ∷ [];
  facts = λ κs. (κs.1.1.0 ⊑ T.lives) ∷ (κs.1.1.1.0 ⊑ O.lives) ∷ [];
  args = tcons (ty_param 0) (tcons (ty_param 1) tnil);
}

-- The arity of a struct over `T`, `O` and `C`.
abbrev pub of_three : RattleType → RattleType → RattleType → Arity
of_three T O C = record {
  more = 3;
  bounds = record { long = 2; long_ok = tt; short = named 0; short_ok = tt } ∷ record { long = 3; long_ok = tt; short = named 0; short_ok = tt }
      ∷ record { long = 4; long_ok = tt; short = named 0; short_ok = tt } ∷ record { long = 2; long_ok = tt; short = named 1; short_ok = tt } ∷ [];
  coded = (2, 0) ∷ (3, 0) ∷ (4, 0) ∷ (2, 1) ∷ [];
  facts = λ κs. (κs.1.1.0 ⊑ T.lives) ∷ (κs.1.1.1.0 ⊑ O.lives) ∷ (κs.1.1.1.1.0 ⊑ C.lives) ∷ [];
  args = tcons (ty_param 0) (tcons (ty_param 1) (tcons (ty_param 2) tnil));
}

-- The arity of a struct over `T`, `O`, `P`, `W` and `L`.
abbrev pub of_five : RattleType → RattleType → RattleType → RattleType → RattleType → Arity
of_five T O P W L = record {
  more = 5;
  bounds = record { long = 2; long_ok = tt; short = named 0; short_ok = tt } ∷ record { long = 3; long_ok = tt; short = named 0; short_ok = tt }
      ∷ record { long = 4; long_ok = tt; short = named 0; short_ok = tt } ∷ record { long = 5; long_ok = tt; short = named 0; short_ok = tt }
      ∷ record { long = 6; long_ok = tt; short = named 0; short_ok = tt } ∷ record { long = 2; long_ok = tt; short = named 1; short_ok = tt } ∷ [];
  coded = (2, 0) ∷ (3, 0) ∷ (4, 0) ∷ (5, 0) ∷ (6, 0) ∷ (2, 1) ∷ [];
  facts = λ κs. (κs.1.1.0 ⊑ T.lives) ∷ (κs.1.1.1.0 ⊑ O.lives) ∷ (κs.1.1.1.1.0 ⊑ P.lives) ∷ (κs.1.1.1.1.1.0 ⊑ W.lives) ∷ (κs.1.1.1.1.1.1.0 ⊑ L.lives) ∷ [];
  args = tcons (ty_param 0) (tcons (ty_param 1) (tcons (ty_param 2) (tcons (ty_param 3) (tcons (ty_param 4) tnil))));
}

module _ {M : Type 1} (𝓤 : Ura M) where
  -- The assertion with the facts before it, one after the other.
  abbrev pub lived : List (Type 0) → SProp 𝓤 → SProp 𝓤
  lived [] P = P
  lived (φ ∷ φs) P = sep 𝓤 (fact 𝓤 φ) (lived φs P)

  -- An assertion with facts before it gives the assertion.
  pub unlived : (φs : List (Type 0)) (P : SProp 𝓤) → ent 𝓤 (lived φs P) P
  unlived [] P = id⊢ 𝓤 P
  unlived (φ ∷ φs) P = via 𝓤 _ (snd∗ 𝓤 (fact 𝓤 φ) (lived φs P)) (unlived φs P)
