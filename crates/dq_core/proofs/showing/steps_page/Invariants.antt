use Rattle.dq_core.proofs.StepPages.{TakenBefore}
use Rattle.dq_core.proofs.showing.steps_page.Given as goal

abbrev pub invariant-loop : goal.invariant-loop
invariant-loop g l = TakenBefore g.T.Tables.state l.fn.tables l.tables l.institution.name l.page l.after l.shown
