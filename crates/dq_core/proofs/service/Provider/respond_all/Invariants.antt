use Rattle.std.proofs.Common.{List}
use Rattle.dq_dimse.specs.Holding.{AllRefine}
use Rattle.dq_dimse.specs.Received.{Message}
use Rattle.dq_assoc.specs.Holding.{accepted_by}
use Rattle.dq_core.specs.Stepping.{HealthAfter}
use Rattle.dq_archive.specs.Additions.{IsTold}
use Rattle.dq_core.specs.Queries.{query_then, IsBegun}
use Rattle.dq_core.proofs.TableCalls.{ok_of}
use Rattle.dq_core.proofs.Composing.{HasServed}
use Rattle.dq_core.proofs.service.Provider.respond_all.Given as goal

abbrev pub invariant-loop-message : goal.invariant-loop-message
invariant-loop-message g l =
    (goal.iterator-loop-message g).can_next l.message-iterator ×
    (goal.iterator-loop-message g).is_finite l.message-iterator ×
    HealthAfter (g.T.Tables.state l.fn.tables) (g.T.Tables.state l.tables) (ok_of l.answered) ×
    ((g.T.Tables.state l.tables).honest → (sent : List Message) → AllRefine (accepted_by l.self.agreement.now) l.fn.messages.items sent
    → HasServed l.self.institution.now l.self.agreement.now l.message-iterator.rest.items sent
    (g.T.Tables.state l.fn.tables).rows (g.T.Tables.state l.tables).rows l.fn.answered.octets.items l.answered.octets.items
    (query_then l.self.institution.now.name (g.T.Tables.state l.fn.tables).rows l.fn.log l.fn.answered.query)
    (query_then l.self.institution.now.name (g.T.Tables.state l.tables).rows l.log l.answered.query)) ×
    ((g.T.Tables.state l.tables).honest → IsTold l.self.institution.now.name (g.T.Tables.state l.fn.tables).rows (g.T.Tables.state l.tables).rows l.fn.log l.log) ×
    (IsBegun l.fn.log l.fn.answered.query → IsBegun l.log l.answered.query)
