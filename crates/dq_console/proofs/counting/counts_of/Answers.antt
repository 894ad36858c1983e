use Rattle.dq_console.proofs.Outcomes.{if_error}
use Rattle.dq_console.proofs.counting.counts_of.Goals as goal

pub returns-in_err-steps-clause-fails : goal.returns-in_err-steps-clause-fails
returns-in_err-steps-clause-fails g c =
    let then = g.met.C.Counting.leads_on in
    let four = then _ _ _ (then _ _ _ (then _ _ _ c.in_ok-studies.ensures.leads c.in_ok-series.ensures.leads) c.in_ok-images.ensures.leads) c.in_ok-entries.ensures.leads in
    if_error _ c.from_residual-in_err-steps.result _ c.from_residual-in_err-steps.ensures.1
    (g.met.C.Counting.fails_later _ _ _ _ four c.in_err-steps.ensures.fails)

pub returns-clause-leads : goal.returns-clause-leads
returns-clause-leads g c =
    let then = g.met.C.Counting.leads_on in
    then _ _ _ (then _ _ _ (then _ _ _ (then _ _ _ c.in_ok-studies.ensures.leads c.in_ok-series.ensures.leads) c.in_ok-images.ensures.leads) c.in_ok-entries.ensures.leads)
    c.in_ok-steps.ensures.leads
