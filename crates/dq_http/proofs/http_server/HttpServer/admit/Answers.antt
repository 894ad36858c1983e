use Rattle.std.proofs.Common.{◌∙◌, sym}
use Rattle.dq_http.proofs.Room.{lets-one}
use Rattle.dq_http.proofs.http_server.HttpServer.admit.Goals as goal

pub returns-then-is_ok-clause-came : goal.returns-then-is_ok-clause-came
returns-then-is_ok-clause-came g c =
    lets-one _ _ _ _ _ _ _ c.is_ok.result c.new-connection.ensures.comes (sym c.is_crowded.ensures ∙ c.if-is_crowded.false)
    (rw (← c.is_ok.ensures.value) at c.push.ensures.items)

pub returns-clause-came : goal.returns-clause-came
returns-clause-came g c =
    lets-one _ _ _ _ _ _ _ c.is_ok.result c.new-connection.ensures.comes (sym c.is_crowded.ensures ∙ c.if-is_crowded.false)
    (rw (← c.is_ok.ensures.value) at c.push.ensures.items)
