use Rattle.std.proofs.Common.{refl}
use Rattle.dq_http.proofs.http_connection.HttpConnection.take.Goals as goal

pub returns-in_ok-tell-in-Response : goal.returns-in_ok-tell-in-Response
returns-in_ok-tell-in-Response c =
    (c.take_off.new.self, c.in_ok-take_off.ensures, rw (c.put.ensures, c.in-Response.is) refl)

pub returns-in-Question : goal.returns-in-Question
returns-in-Question c = (c.take_off.new.self, c.in_ok-take_off.ensures, rw c.in-Question.is refl)
