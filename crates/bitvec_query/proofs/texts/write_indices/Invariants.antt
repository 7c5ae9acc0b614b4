use Rattle.std.proofs.Common.{◌≡◌, ◌++◌, length}
use Rattle.std.specs.Fmt.{HasWritten, IsPlainFormatter, decimal}
use Rattle.std.specs.List.{join_by}
use Rattle.bitvec_domain.specs.Listing.{comma, separator}
use Rattle.bitvec_query.specs.Indices.{remaining_indices}
use Rattle.bitvec_query.proofs.texts.write_indices.Given as goal

abbrev pub invariant-loop-index : goal.invariant-loop-index
invariant-loop-index g l =
    (separator l.passed ≡ separator (length l.yielded))
    × (l.yielded ++ remaining_indices l.index-iterator ≡ remaining_indices l.fn.walk)
    × (IsPlainFormatter l.initial.f → HasWritten g.W.Write.write_str_gives l.initial.f (join_by decimal comma l.yielded) l.f)
