use Rattle.std.proofs.Common.{ℕ, List, length}
use Rattle.std.specs.Prelude.{Option}
use Rattle.dq_dataset.specs.declared.fault.ReadFault.{ReadFault}
use Rattle.dq_dataset.specs.Sifting.{IsSettling, WalkLeads}
use Rattle.dq_dataset.proofs.sieve.walk.Walk.settled.Given as goal

abbrev pub invariant-loop-reach : goal.invariant-loop-reach
invariant-loop-reach l =
    IsSettling l.self × ((octets : List ℕ) (end : Option ReadFault) → WalkLeads l.self octets end → WalkLeads l.fn.self octets end)

abbrev pub decreases-loop-reach : goal.decreases-loop-reach
decreases-loop-reach l = length l.self.around.items
