-- A message as it was received, however its data set is held.
use Rattle.std.specs.Prelude.{ℕ, Bool, List}
use Rattle.dq_dimse.specs.declared.command.Command.{Command}

-- Its presentation context, its command, the octets of its data set, and whether that passed its
-- limit. Its octets were then discarded.
pub record Message : Type 0 where
  pub context : ℕ
  pub command : Command
  pub octets : List ℕ
  pub over : Bool
