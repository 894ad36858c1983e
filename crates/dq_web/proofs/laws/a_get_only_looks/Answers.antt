use Rattle.dq_web.proofs.Orders.{named, Asks-look}
use Rattle.dq_web.proofs.laws.a_get_only_looks.Goals as goal

pub returns : goal.returns
returns c guard request question asked post delete =
    Asks-look asked.aim.method asked.aim.resource _ asked.aim.query.now _ _ question.asked (named guard request.head asked.aim.method asked.let_in.aimed.by_method) asked.asks post delete
