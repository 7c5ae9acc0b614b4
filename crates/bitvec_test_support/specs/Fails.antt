-- When a call fails, and how.
use Rattle.std.specs.Prelude.{◌≡◌, ◌↔◌, IfErr, IsErr}
use Rattle.std.specs.IoError.{error_kind}
use Rattle.std.specs.declared.io.Error.{Error}
use Rattle.std.specs.declared.io.ErrorKind.{ErrorKind}
use Rattle.std.specs.declared.result.Result.{Result}

-- the call fails just then, by an error of the kind
pub record FailsWhere {X : Type 0} (result : Result X Error) (when : Type 0) (kind : ErrorKind) : Type 0 where
  pub fails : IsErr result ↔ when
  pub kind_is : IfErr result (λ error. error_kind error ≡ kind)
