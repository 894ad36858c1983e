use Rattle.std.proofs.Common.{◌≡◌, ◌∙◌, sym, refl, Some, arith}
use Rattle.std.specs.Result.{result_err}
use Rattle.std.proofs.lemmas.Grind.{common_steps}
use Rattle.dq_wires.specs.declared.fault.TurnFault.TheVariants.{NoMemory}
use Rattle.dq_wires.proofs.ConnectionTurns.{handed-on}
use Rattle.dq_wires.proofs.Accepting.{cut-at_room, cut-at_accept, cut-at_open, taken-new}
use Rattle.dq_wires.proofs.turns.connection_set.ConnectionSet.accept_connection.Goals as goal

pub returns-in_err-reserve-clause-cut : goal.returns-in_err-reserve-clause-cut
returns-in_err-reserve-clause-cut g c =
    let left : result_err c.from_residual.result ≡ Some NoMemory = grind (arith, common_steps) in
    handed-on c.from_residual.result _ left cut-at_room

pub returns-in-Err-clause-cut : goal.returns-in-Err-clause-cut
returns-in-Err-clause-cut g c =
    cut-at_accept (rw c.as_slice.ensures.value at (sym c.has_room.ensures ∙ c.if-not-has_room.false)) c.in-Err.ensures.told

pub returns-in_err-step_event-clause-cut : goal.returns-in_err-step_event-clause-cut
returns-in_err-step_event-clause-cut g c =
    let left : result_err c.from_residual-in_err-step_event.result ≡ Some c.in_err-step_event.field-0.0 = grind (arith, common_steps) in
    handed-on c.from_residual-in_err-step_event.result _ left
    (cut-at_open _ (rw c.as_slice.ensures.value at (sym c.has_room.ensures ∙ c.if-not-has_room.false))
    (rw c.in-Ok-Some.field-0-is at c.in-Ok-Some.ensures.told) c.in_err-step_event.ensures.stops)

pub returns-clause-went : goal.returns-clause-went
returns-clause-went g c =
    taken-new c.in-Ok-Some.place c.in_ok-step_event.field-0 (rw c.as_slice.ensures.value at (sym c.has_room.ensures ∙ c.if-not-has_room.false))
    (rw c.in-Ok-Some.field-0-is at c.in-Ok-Some.ensures.told) c.in_ok-step_event.ensures.stepped
    (c.in_ok-push.ensures.items ∙ rw (c.reserve.ensures.items, c.new.ensures) refl)
