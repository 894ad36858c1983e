use Rattle.std.proofs.Common.{◌∙◌, sym}
use Rattle.dq_wires.proofs.ConnectionTurns.{went-closed}
use Rattle.dq_wires.proofs.turns.connection_turn.turn_connection.Goals as goal

pub returns-then-is_closed-clause-went : goal.returns-then-is_closed-clause-went
returns-then-is_closed-clause-went g c =
    went-closed _ _ _ c.if-is_sending.ensures.sends (sym c.is_closed.ensures ∙ c.if-is_closed.true) c.place.ensures c.shut.ensures.told

pub receive-requires-clause-listening : goal.receive-requires-clause-listening
receive-requires-clause-listening g c = (c.if-is_sending.ensures.sends, (sym c.is_closed.ensures ∙ c.if-is_closed.false))
