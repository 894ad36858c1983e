use Rattle.std.proofs.Common.{List, sym, ap, subst, ◌∙◌}
use Rattle.dq_core.specs.declared.event.Reply.{Reply}
use Rattle.dq_core.specs.Own.{outputs_on}
use Rattle.dq_wires.specs.Steps.{replies_of}
use Rattle.dq_wires.specs.Servings.{served_steps, served_events, written_on, octets_among, IsFrontOf}
use Rattle.dq_wires.proofs.Serving.{served_rises}
use Rattle.dq_wires.proofs.Isolating.{served_replies, served_written}
use Rattle.dq_wires.proofs.Exact.{octets-on}
use Rattle.dq_wires.proofs.laws.servings_are_exact.Goals as goal

pub returns-clause-written : goal.returns-clause-written
returns-clause-written g c = λ rows first last acts cut served honest number i owned.
    let events = served_events acts cut in
    let answered = c.associations_are_answered_in_full.ensures.history first.institutions rows events number i (served_rises served) owned in
    subst (IsFrontOf (written_on number acts cut))
    (sym (octets-on number events (replies_of (served_steps acts cut)))
    ∙ ap (λ (given : List Reply). octets_among (outputs_on number events given)) (served_replies g.T.Tables.state served honest)
    ∙ ap octets_among answered.outputs)
    (served_written g.T.Tables.state served honest number)

pub returns-clause-exact : goal.returns-clause-exact
returns-clause-exact g c = λ rows first last acts cut served honest number i sound octets owned.
    (c.associations_are_answered_in_full.ensures.history first.institutions rows (served_events acts cut) number i (served_rises served) owned).exact
    sound octets
