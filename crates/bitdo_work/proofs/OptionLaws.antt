-- An option without a value.
use Rattle.std.proofs.Common.{◌≡◌, false, Option, Some, None, is_some, refl}

pub none_of_is_some : {A : Type 0} (o : Option A) → is_some o ≡ false → o ≡ None
none_of_is_some None h = refl
none_of_is_some (Some x) h = absurd (cc)
