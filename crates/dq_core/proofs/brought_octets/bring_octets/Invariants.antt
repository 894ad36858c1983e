use Rattle.std.proofs.Common.{take}
use Rattle.dq_core.specs.Soundness.{BringOctets}
use Rattle.dq_core.proofs.brought_octets.bring_octets.Given as goal

abbrev pub invariant-loop-event : goal.invariant-loop-event
invariant-loop-event l = BringOctets (take l.event-index l.events)
