use Rattle.std.proofs.Common.{inl, inr, refl}
use Rattle.dq_http.proofs.http_connection.HttpConnection.answer.Goals as goal

pub returns-in-Ok : goal.returns-in-Ok
returns-in-Ok c =
    rw c.in-Waiting.is (inl (c.in-Ok.written, c.in-Ok.ensures.response, c.put.ensures, c.in-Ok.ensures.noted))

pub returns-in-Err : goal.returns-in-Err
returns-in-Err c = rw c.in-Waiting.is (inr (refl, rw c.in-Err.ensures.lost at c.tell.ensures.line))
