use Rattle.std.proofs.Common.{ℕ, List, ◌++◌, codes, ap, sym, ◌∙◌, subst}
use Rattle.dq_web.specs.Aims.{IsAt}
use Rattle.dq_web.specs.ParsedRequests.{words_in}
use Rattle.dq_web.specs.Resources.{beneath}
use Rattle.dq_web.proofs.Orders.{IsSearchAt-path, searches}
use Rattle.dq_web.proofs.Taking.{TakesWords-institution}
use Rattle.dq_web.proofs.laws.a_search_stays_in_its_institution.Goals as goal

pub returns : goal.returns
returns c guard request question search asked is =
    let at = asked.let_in in
    let it = searches asked.aim.method asked.aim.resource asked.aim.query.now request.head.fields.body_form request.body.now question.asked search asked.asks is in
    let below = IsSearchAt-path asked.aim.resource at.aimed.path it.0 at.aimed.at_resource it.1 in
    let same = TakesWords-institution (words_in it.0.subject asked.aim.query.now) it.0 search it.2 in
    let path = below.1 ∙ ap (λ (name : List ℕ). codes "/" ++ beneath name below.0) (sym same) in
    (below.0, (at.host, asked.aim.query.now, subst (λ (path : List ℕ). IsAt request.head at.host path asked.aim.query.now) path at.aimed.at_path))
