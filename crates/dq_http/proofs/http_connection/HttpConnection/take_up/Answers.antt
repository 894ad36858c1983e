use Rattle.std.proofs.Common.{inr, rules}
use Rattle.dq_http.proofs.http_connection.HttpConnection.take_up.Goals as goal

pub returns : goal.returns
returns c =
    inr (search rules, (c.read_sender.new.self, c.read_sender.ensures, c.in_ok-take_front.ensures))
