-- What steps of runs leave of lists, and reply, at values.
use Rattle.std.specs.Prelude.{◌≡◌, Some, true, false, [], ◌∷◌, refl}
use Rattle.bitvec_commands.specs.declared.command.Op.TheVariants.{FirstZero, Invert}
use Rattle.bitvec_commands.specs.declared.command.Reply.TheVariants.{Index}
use Rattle.bitvec.specs.Lists.{places_of}
use Rattle.bitvec.specs.Runs.{step_list, step_reply, step_row}
use Rattle.bitvec.specs.Window.{write_at}

pub step_list-1 : step_list [] (false ∷ true ∷ false ∷ true ∷ []) (record { from = 1; to = 3; op = Invert }) ≡ false ∷ false ∷ true ∷ true ∷ []
unfolding step_row write_at
step_list-1 = refl

-- the index is one of the step's range
pub step_reply-1 : step_reply [] (false ∷ true ∷ false ∷ true ∷ []) (record { from = 1; to = 3; op = FirstZero }) ≡ Index (Some 1)
unfolding step_row places_of
step_reply-1 = refl
