use Rattle.std.proofs.Common.{List, Some, None, ap, sym, ◌∙◌}
use Rattle.std.specs.List.{filter_map}
use Rattle.std.specs.Result.{result_ok}
use Rattle.std.proofs.lemmas.List.{append-nil}
use Rattle.dq_assoc.specs.declared.agreement.AcceptedContext.{AcceptedContext}
use Rattle.dq_assoc.specs.Negotiation.{agreed_context}
use Rattle.dq_assoc.proofs.Loops.{filter_map-next, filter_map-end}
use Rattle.dq_assoc.proofs.negotiation.agreement_of.Goals as goal
use Rattle.dq_assoc.proofs.negotiation.agreement_of.Goals.{in-Ok+in_ok-push, in_default}

pub loop-context-init : goal.loop-context-init
loop-context-init c = c.empty-contexts.ensures

pub loop-context-preserved : goal.loop-context-preserved
loop-context-preserved c =
    let next = filter_map-next agreed_context c.loop-context.contexts c.match-context_result.contexts c.as_slice-context-items.result.now
    c.loop-context.context-index c.context-item.result in
    elim c.match-context_result.branch [
      | in-Ok+in_ok-push w ↦ next (Some w.in-Ok.agreed) c.loop-context-test.true c.context-item.is (ap result_ok (sym c.context_result.ensures ∙ w.in-Ok.is))
          (w.contexts-is ∙ w.in_ok-push.ensures.ok) c.loop-context.invariant
      | in_default w ↦ next None c.loop-context-test.true c.context-item.is (ap result_ok (sym c.context_result.ensures ∙ w.in_default.is))
          (w.contexts-is ∙ sym (append-nil c.loop-context.contexts)) c.loop-context.invariant
    ]

pub returns : goal.returns
returns c =
    let called = c.args.request.now.called in
    let items = c.as_slice-context-items.result.now in
    let all = filter_map-end agreed_context c.loop-context.contexts items c.loop-context.context-index c.loop-context-test.false c.loop-context.invariant in
    ap (λ (list : List AcceptedContext). record { contexts = list; called = called; limit = c.args.limit })
    (all ∙ ap (filter_map agreed_context) c.as_slice-context-items.ensures)
    ∙ ap (λ limit. record { contexts = filter_map agreed_context c.args.request.now.contexts; called = called; limit = limit }) c.requires
