-- Associations between two PDUs, as the definitions have them.
use Rattle.std.specs.Prelude.{Option}
use Rattle.dq_dimse.specs.Assembling.{Assembly}
use Rattle.dq_assoc.specs.declared.agreement.Agreement.{Agreement}

-- one that awaits its request, one that is open, with what was assembled of its PDVs so far, or
-- one that is closed
pub data HeldState : Type 0 where
  Waiting : HeldState
  Open : Agreement → Assembly → HeldState
  Closed : Option Agreement → HeldState
