use Rattle.std.proofs.Common.{ap, sym, ◌∙◌}
use Rattle.dq_value.specs.Parts.{element_values}
use Rattle.dq_match.specs.declared.values.Matching.{Matching}
use Rattle.dq_match.specs.Values.{is_met_by_value}
use Rattle.dq_match.proofs.Takes.{dates_taken, times_taken}
use Rattle.dq_match.proofs.value_keys.KeyValues.of.Goals as goal

pub returns-in_ok-dates-in-Date : goal.returns-in_ok-dates-in-Date
returns-in_ok-dates-in-Date c = λ value.
    let keys = element_values c.args.vr c.args.octets.now in
    dates_taken c.in_ok-dates-in-Date.field-0 keys value c.in_ok-dates-in-Date.ensures
    ∙ ap (λ (m : Matching). is_met_by_value m keys value) (sym c.in-Date.is ∙ c.of-matching.ensures)

pub returns-in_ok-times-in-Time : goal.returns-in_ok-times-in-Time
returns-in_ok-times-in-Time c = λ value.
    let keys = element_values c.args.vr c.args.octets.now in
    times_taken c.in_ok-times-in-Time.field-0 keys value c.in_ok-times-in-Time.ensures
    ∙ ap (λ (m : Matching). is_met_by_value m keys value) (sym c.in-Time.is ∙ c.of-matching.ensures)
