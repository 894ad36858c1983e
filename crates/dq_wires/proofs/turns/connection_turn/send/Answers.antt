use Rattle.std.proofs.Common.{◌∙◌, sym}
use Rattle.dq_wires.proofs.ConnectionTurns.{went-sent, went-lost, went-broke}
use Rattle.dq_wires.proofs.turns.connection_turn.send.Goals as goal

pub returns-in-Ok-clause-went : goal.returns-in-Ok-clause-went
returns-in-Ok-clause-went g c =
    went-sent _ _ _ _ c.place.ensures c.unsent.ensures c.requires c.in-Ok.ensures.bound c.in-Ok.ensures.told c.wrote.ensures

pub returns-then-is_closed-clause-went : goal.returns-then-is_closed-clause-went
returns-then-is_closed-clause-went g c =
    went-lost _ _ _ _ _ _ c.place.ensures c.unsent.ensures c.requires (sym c.is_closed.ensures ∙ c.if-is_closed.true) c.in-Err.ensures.told
    c.place-then-is_closed.ensures c.shut.ensures.told

pub returns-in_ok-leave-in-Err-clause-went : goal.returns-in_ok-leave-in-Err-clause-went
returns-in_ok-leave-in-Err-clause-went g c =
    went-broke _ _ _ _ c.place.ensures c.unsent.ensures c.requires (sym c.is_closed.ensures ∙ c.if-is_closed.false) c.in-Err.ensures.told
    c.in_ok-leave-in-Err.ensures.ends
