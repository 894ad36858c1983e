use Rattle.std.proofs.Common.{ℕ, List, sym, subst, option_copied}
use Rattle.dq_web.specs.declared.keys.Right.{Right}
use Rattle.dq_web.specs.Guards.{IsOpened}
use Rattle.dq_web.specs.Aims.{right_of}
use Rattle.dq_web.specs.ParsedRequests.{owner_of_request}
use Rattle.dq_web.proofs.Orders.{Asks-owner, Asks-right}
use Rattle.dq_web.proofs.laws.a_question_has_its_key.Goals as goal

pub returns : goal.returns
returns c guard request question shut asked =
    let owner = Asks-owner asked.aim.method asked.aim.resource asked.aim.query.now request.head.fields.body_form request.body.now question.asked asked.asks in
    let right = Asks-right asked.aim.method asked.aim.resource asked.aim.query.now request.head.fields.body_form request.body.now question.asked asked.asks in
    let named = subst (λ (name : List ℕ). IsOpened guard.keys name (right_of asked.aim.resource asked.aim.method) (option_copied request.head.fields.authorization)) (sym owner) asked.opened in
    shut (subst (λ (right : Right). IsOpened guard.keys (owner_of_request question.asked) right (option_copied request.head.fields.authorization)) (sym right) named)
