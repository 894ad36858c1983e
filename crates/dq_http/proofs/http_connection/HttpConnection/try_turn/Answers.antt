use Rattle.dq_http.proofs.http_connection.HttpConnection.try_turn.Goals as goal

pub returns : goal.returns
returns g c =
    (c.moves.new.self, rw c.if-not-is_there.false at c.in_ok-is_there.ensures, rw (← c.begin_wait.ensures) c.in_ok-take_or_refuse.ensures)
