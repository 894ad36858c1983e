use Rattle.std.proofs.Common.{◌≡◌, true, false, ◌==◌, ◌++◌, List, Some, None, sym, ap, ◌∙◌, arith}
use Rattle.std.proofs.lemmas.Bool.Decides.{nat_tests}
use Rattle.dq_dimse.specs.declared.command.Command.{Command}
use Rattle.dq_dimse.specs.CommandFields.{c_cancel}
use Rattle.dq_tables.specs.Rows.{Record, of}
use Rattle.dq_core.specs.declared.pages.OpenQuery.{OpenQuery as HeldQuery}
use Rattle.dq_core.specs.Stepping.{MayLeaveAfter}
use Rattle.dq_core.specs.Queries.{found_left, command_octets, open_query_of, records_since, query_then}
use Rattle.dq_core.proofs.TableCalls.{on-err}
use Rattle.dq_core.proofs.Lookback.{records_now}
use Rattle.dq_core.proofs.Serving.{did-stray, did-cancel, did-served, did-status, part-served, part-unserved}
use Rattle.dq_core.proofs.Serving.{context_stands, stands_there, code_stands, unsent_stands}
use Rattle.dq_core.proofs.service.Provider.serve.Goals as goal

pub returns-in_default-clause-does : goal.returns-in_default-clause-does
returns-in_default-clause-does g c = λ h sent on.
    did-stray c.args.self.institution.now c.args.self.agreement.now sent (g.T.Tables.state c.args.tables.now).rows c.args.octets.items
    (context_stands c.args.self.agreement.now c.args.message sent on None (sym c.context.ensures ∙ c.in_default.is))

pub returns-then-message-eq-C_CANCEL-clause-does : goal.returns-then-message-eq-C_CANCEL-clause-does
returns-then-message-eq-C_CANCEL-clause-does g c = λ h sent on.
    let cancels : (c.args.message.command.code == c_cancel) ≡ true = grind (arith, nat_tests) in
    did-cancel c.args.self.institution.now c.args.self.agreement.now sent c.in-Some.context
    (context_stands c.args.self.agreement.now c.args.message sent on (Some c.in-Some.context) (sym c.context.ensures ∙ c.in-Some.is))
    (g.T.Tables.state c.args.tables.now).rows c.args.octets.items (code_stands c.args.self.agreement.now c.args.message sent on true cancels)

pub returns-in_err-outcome-clause-stops : goal.returns-in_err-outcome-clause-stops
returns-in_err-outcome-clause-stops g c = λ h sent on.
    let goes_on : (c.args.message.command.code == c_cancel) ≡ false = grind (arith, nat_tests) in
    let agreement = c.args.self.agreement.now in
    let found = sym c.context.ensures ∙ c.in-Some.is in
    let serves = c.in_err-outcome.ensures.serves sent (stands_there agreement c.args.message sent on c.in-Some.context found) in
    on-err _ (
    part-unserved c.args.self.institution.now agreement sent c.in-Some.context
    (context_stands agreement c.args.message sent on (Some c.in-Some.context) found)
    (g.T.Tables.state c.args.tables.now).rows (g.T.Tables.state c.outcome.new.tables).rows
    (MayLeaveAfter (g.T.Tables.state c.args.tables.now) (g.T.Tables.state c.outcome.new.tables))
    (code_stands agreement c.args.message sent on false goes_on) (serves.same h)
    (serves.crash h))

pub returns-in_err-put_command-in-Status-clause-stops : goal.returns-in_err-put_command-in-Status-clause-stops
returns-in_err-put_command-in-Status-clause-stops g c = λ h sent on.
    let state = g.T.Tables.state in
    let goes_on : (c.args.message.command.code == c_cancel) ≡ false = grind (arith, nat_tests) in
    let agreement = c.args.self.agreement.now in
    let found = sym c.context.ensures ∙ c.in-Some.is in
    let serves = c.in_ok-outcome.ensures.serves sent (stands_there agreement c.args.message sent on c.in-Some.context found) in
    on-err _ (
    part-served c.args.self.institution.now agreement sent c.in-Some.context
    (context_stands agreement c.args.message sent on (Some c.in-Some.context) found)
    (state c.args.tables.now).rows (state c.outcome.new.tables).rows
    (MayLeaveAfter (state c.args.tables.now) (state c.outcome.new.tables))
    (code_stands agreement c.args.message sent on false goes_on) (serves.done h)
    (λ r left. (serves.goes.settles h left.0).only r left.1))

pub returns-in-Status-clause-does : goal.returns-in-Status-clause-does
returns-in-Status-clause-does g c = λ h sent on.
    let state = g.T.Tables.state in
    let goes_on : (c.args.message.command.code == c_cancel) ≡ false = grind (arith, nat_tests) in
    let agreement = c.args.self.agreement.now in
    let found = sym c.context.ensures ∙ c.in-Some.is in
    let serves = c.in_ok-outcome.ensures.serves sent (stands_there agreement c.args.message sent on c.in-Some.context found) in
    let status = c.in-Status.status in
    let sent_status : c.put_command.new.out.items ≡ c.args.octets.items
    ++ command_octets c.in-Some.context agreement.limit c.args.message.command status false =
    rw (c.new-recipient.ensures.0, c.new-recipient.ensures.1, c.new-recipient.ensures.2) at c.in_ok-put_command-in-Status.ensures in
    did-status c.args.self.institution.now agreement sent c.in-Some.context
    (context_stands agreement c.args.message sent on (Some c.in-Some.context) found)
    (state c.args.tables.now).rows (state c.outcome.new.tables).rows c.args.octets.items c.put_command.new.out.items status
    (code_stands agreement c.args.message sent on false goes_on) (rw c.in-Status.is at serves.answered h) (serves.done h)
    (sent_status
    ∙ ap (λ (k : Command). c.args.octets.items ++ command_octets c.in-Some.context agreement.limit k status false) on.stands.command)

pub returns-in_err-query-clause-stops : goal.returns-in_err-query-clause-stops
returns-in_err-query-clause-stops g c = λ h sent on.
    let state = g.T.Tables.state in
    let goes_on : (c.args.message.command.code == c_cancel) ≡ false = grind (arith, nat_tests) in
    let agreement = c.args.self.agreement.now in
    let found = sym c.context.ensures ∙ c.in-Some.is in
    let serves = c.in_ok-outcome.ensures.serves sent (stands_there agreement c.args.message sent on c.in-Some.context found) in
    let reads = c.send_page.ensures.reads in
    let was = reads.goes.was_honest h in
    on-err _ (
    part-served c.args.self.institution.now agreement sent c.in-Some.context
    (context_stands agreement c.args.message sent on (Some c.in-Some.context) found)
    (state c.args.tables.now).rows (state c.send_page.new.tables).rows
    (MayLeaveAfter (state c.args.tables.now) (state c.send_page.new.tables))
    (code_stands agreement c.args.message sent on false goes_on) (reads.same h ∙ serves.done was)
    (λ r left. (serves.goes.settles was left.0).only r (reads.crash h r left.1) ∙ sym (reads.same h)))

pub returns-clause-does : goal.returns-clause-does
returns-clause-does g c = λ h sent on.
    let state = g.T.Tables.state in
    let goes_on : (c.args.message.command.code == c_cancel) ≡ false = grind (arith, nat_tests) in
    let institution = c.args.self.institution.now in
    let name = institution.name in
    let agreement = c.args.self.agreement.now in
    let found = sym c.context.ensures ∙ c.in-Some.is in
    let serves = c.in_ok-outcome.ensures.serves sent (stands_there agreement c.args.message sent on c.in-Some.context found) in
    let reads = c.send_page.ensures.reads in
    let was = reads.goes.was_honest h in
    let mid = (state c.outcome.new.tables).rows in
    let log = c.outcome.new.log in
    let answers = c.in-Answers.answers in
    let query : HeldQuery = record {
      context = c.in-Some.context;
      command = c.args.message.command;
      limit = agreement.limit;
      answers = answers;
      since = c.len.result;
      note = c.begin-note.result;
    } in
    let scope = c.search_scope-scope.result in
    let own = c.search_scope-scope.ensures.0 in
    let logged : scope.log.now ≡ log = ap (λ l. l.now) c.search_scope-scope.ensures.1 ∙ c.as_slice.ensures in
    let at = records_since scope.institution.now.name mid scope.log.now query.since in
    let now : at ≡ of name mid = (λ i. records_since (own i).now.name mid (logged i) (c.len.ensures i)) ∙ records_now name mid log in
    let sent_page = c.in_ok-query.ensures.sent h in
    did-served institution agreement sent c.in-Some.context
    (context_stands agreement c.args.message sent on (Some c.in-Some.context) found)
    (state c.args.tables.now).rows (state c.send_page.new.tables).rows c.args.octets.items c.send_page.new.out.items
    (found_left (of name mid) answers)
    (open_query_of at query) (query_then name (state c.send_page.new.tables).rows log c.in_ok-query.query)
    (code_stands agreement c.args.message sent on false goes_on) (rw c.in-Answers.is at serves.answered was) (reads.same h ∙ serves.done was)
    (unsent_stands agreement c.args.message sent on c.in-Some.context (found_left (of name mid) answers) (open_query_of at query)
    (ap (λ (rs : List Record). open_query_of rs query) now))
    sent_page.0
    ((λ i. query_then (sym own i).now.name (reads.same h i) (sym logged i) c.in_ok-query.query) ∙ sent_page.1)
