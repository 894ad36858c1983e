use Rattle.std.proofs.Common.{ℕ, List, subst}
use Rattle.dq_web.specs.Aims.{IsAt}
use Rattle.dq_web.proofs.Orders.{named, schedules, withdraws, backs_up}
use Rattle.dq_web.proofs.laws.orders_are_exact.Goals as goal

pub returns-clause-schedules : goal.returns-clause-schedules
returns-clause-schedules c guard request question institution octets asked is =
    let at = asked.let_in in
    let told = schedules asked.aim.method asked.aim.resource _ at.aimed.path asked.aim.query.now _ _ question.asked institution octets (named guard request.head asked.aim.method at.aimed.by_method) at.aimed.at_resource asked.asks is in
    (((at.host, asked.aim.query.now, subst (λ (path : List ℕ). IsAt request.head at.host path asked.aim.query.now) told.1 at.aimed.at_path), told.0), told.2)

pub returns-clause-withdraws : goal.returns-clause-withdraws
returns-clause-withdraws c guard request question institution id asked is =
    let at = asked.let_in in
    let told = withdraws asked.aim.method asked.aim.resource _ at.aimed.path asked.aim.query.now _ _ question.asked institution id (named guard request.head asked.aim.method at.aimed.by_method) at.aimed.at_resource asked.asks is in
    (told.0, ((at.host, asked.aim.query.now, subst (λ (path : List ℕ). IsAt request.head at.host path asked.aim.query.now) told.2 at.aimed.at_path), told.1), told.3)

pub returns-clause-backs_up : goal.returns-clause-backs_up
returns-clause-backs_up c guard request question file asked is =
    let at = asked.let_in in
    let told = backs_up asked.aim.method asked.aim.resource _ at.aimed.path asked.aim.query.now _ _ question.asked file (named guard request.head asked.aim.method at.aimed.by_method) at.aimed.at_resource asked.asks is in
    (((at.host, asked.aim.query.now, subst (λ (path : List ℕ). IsAt request.head at.host path asked.aim.query.now) told.1 at.aimed.at_path), told.0), told.2)
