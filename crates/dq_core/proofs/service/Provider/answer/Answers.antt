use Rattle.std.proofs.Common.{List, sym, subst}
use Rattle.dq_dimse.specs.declared.command.Message.{Message}
use Rattle.dq_dimse.specs.Holding.{AllRefine}
use Rattle.dq_assoc.specs.Holding.{accepted_by}
use Rattle.dq_core.proofs.TableCalls.{on-err}
use Rattle.dq_core.proofs.Serving.{part-whole}
use Rattle.dq_core.proofs.service.Provider.answer.Goals as goal

-- all was served, and what came last found no room
pub returns-in_err-extend_from_slice-clause-stops : goal.returns-in_err-extend_from_slice-clause-stops
returns-in_err-extend_from_slice-clause-stops g c = λ h t is.
    let stand = subst (λ (helds : List Message). AllRefine (accepted_by c.args.self.agreement.now) helds t.step.messages)
    (sym c.into_inner-messages.ensures) is.step.messages in
    let did = c.in_ok-answered.ensures.does h t.step.messages stand in
    on-err c.from_residual-in_err-extend_from_slice.result
    (part-whole did.rows (λ r left. (c.in_ok-answered.ensures.goes.settles h left.0).only r left.1))
