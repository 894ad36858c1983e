use Rattle.std.proofs.Common.{◌≡◌, drop}
use Rattle.dq_core.specs.Histories.{rises_from, is_well_formed_history}
use Rattle.dq_core.proofs.server.well_formed.Given as goal

abbrev pub invariant-loop-event : goal.invariant-loop-event
invariant-loop-event l = rises_from l.newest (drop l.event-index l.events) ≡ is_well_formed_history l.events
