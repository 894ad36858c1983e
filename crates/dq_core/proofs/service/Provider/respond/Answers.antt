use Rattle.std.proofs.Common.{◌≡◌, true, false, ◌==◌, ◌++◌, List, sym, ap, ◌∙◌, arith}
use Rattle.std.proofs.lemmas.Bool.Decides.{nat_tests}
use Rattle.std.proofs.lemmas.Result.{IfOk-weaker, on_err_weaker}
use Rattle.dq_dimse.specs.CommandFields.{c_cancel}
use Rattle.dq_tables.specs.declared.row.Row.{Row}
use Rattle.dq_core.specs.Pages.{rest}
use Rattle.dq_core.specs.Stepping.{MayLeaveAfter}
use Rattle.dq_core.specs.Queries.{open_query_of, records_since, query_then}
use Rattle.dq_core.proofs.TableCalls.{part-left}
use Rattle.dq_core.proofs.Lookback.{query_since, settled-read, goes-after-read}
use Rattle.dq_core.proofs.Serving.{code_stands, id_stands, did-cancelled, did-after, part-after}
use Rattle.dq_core.proofs.service.Provider.respond.Goals as goal

pub returns-then-message-eq-C_CANCEL-clause-does : goal.returns-then-message-eq-C_CANCEL-clause-does
returns-then-message-eq-C_CANCEL-clause-does g c = λ h sent on.
    let cancels : (c.args.message.command.code == c_cancel) ≡ true = grind (arith, nat_tests) in
    let agreement = c.args.self.agreement.now in
    let name = c.args.self.institution.now.name in
    let rows = (g.T.Tables.state c.args.tables.now).rows in
    let log = c.args.log.now in
    let asked = c.in-Some.open in
    let left = c.in_ok-query.query in
    let records = records_since name rows log asked.since in
    let given = c.in_ok-query.ensures.sent records in
    let id = id_stands agreement c.args.message sent on in
    rw c.in-Some.is (did-cancelled c.args.self.institution.now agreement sent (open_query_of records asked) rows c.args.answered.octets.items
    c.cancel.new.out.items (query_then name rows log left) (code_stands agreement c.args.message sent on true cancels)
    (rw id given.0) (query_since name rows log asked.since left c.in_ok-query.ensures.since ∙ rw id given.1))

pub returns-clause-does : goal.returns-clause-does
returns-clause-does g c = λ h sent on.
    let state = g.T.Tables.state in
    let goes_on : (c.args.message.command.code == c_cancel) ≡ false = grind (arith, nat_tests) in
    let agreement = c.args.self.agreement.now in
    let name = c.args.self.institution.now.name in
    let rows = (state c.args.tables.now).rows in
    let asked = c.in-Some.open in
    let out = c.args.answered.octets.items in
    let was = c.serve-2.ensures.goes.was_honest h in
    let same = c.send_rest.ensures.reads.same was in
    let logged : c.search_scope-scope.result.log.now ≡ c.args.log.now = ap (λ l. l.now) c.search_scope-scope.ensures.1 ∙ c.as_slice.ensures in
    let sent_rest = c.in_ok-send_rest.ensures.sent was
    ∙ (λ i. out ++ rest (open_query_of (records_since (c.search_scope-scope.ensures.0 i).now.name rows (logged i) asked.since) asked)) in
    IfOk-weaker c.serve-2.result _ _
    (λ given did. rw c.in-Some.is (did-after c.args.self.institution.now agreement sent (open_query_of (records_since name rows c.args.log.now asked.since) asked) rows
    (state c.serve-2.new.tables).rows out c.send_rest.new.out.items given.octets.items
    (query_then name (state c.serve-2.new.tables).rows c.serve-2.new.log given.query)
    (code_stands agreement c.args.message sent on false goes_on) sent_rest (rw same at did)))
    (c.serve-2.ensures.does h sent on)

pub returns-clause-stops : goal.returns-clause-stops
returns-clause-stops g c = λ h sent on.
    let state = g.T.Tables.state in
    let goes_on : (c.args.message.command.code == c_cancel) ≡ false = grind (arith, nat_tests) in
    let agreement = c.args.self.agreement.now in
    let name = c.args.self.institution.now.name in
    let rows = (state c.args.tables.now).rows in
    let asked = c.in-Some.open in
    let was = c.serve-2.ensures.goes.was_honest h in
    let reads = c.send_rest.ensures.reads in
    let mid = state c.send_rest.new.tables in
    let new = state c.serve-2.new.tables in
    let IsLeft = MayLeaveAfter (state c.args.tables.now) new in
    let less : (r : List Row) → IsLeft r → MayLeaveAfter mid new r = λ r left. (settled-read reads was left.0, left.1) in
    on_err_weaker c.serve-2.result
    (λ part. rw c.in-Some.is (part-after c.args.self.institution.now agreement sent (open_query_of (records_since name rows c.args.log.now asked.since) asked) rows
    new.rows IsLeft (code_stands agreement c.args.message sent on false goes_on)
    (part-left IsLeft less (rw (reads.same was) at part))))
    (c.serve-2.ensures.stops h sent on)

pub returns-clause-goes : goal.returns-clause-goes
returns-clause-goes g c = goes-after-read c.in_ok-send_rest.ensures.reads c.serve-2.ensures.goes
