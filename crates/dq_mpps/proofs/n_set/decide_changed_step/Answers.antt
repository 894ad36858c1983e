use Rattle.std.proofs.Common.{◌≡◌, ◌∙◌, ℕ, is_none, List, Some, refl, sym, ap}
use Rattle.std.specs.Option.{option_map}
use Rattle.dq_dataset.specs.Editing.{merged_data_set}
use Rattle.dq_tables.specs.declared.row.Kind.TheVariants.{Step}
use Rattle.dq_tables.specs.declared.row.Row.{Row}
use Rattle.dq_tables.specs.declared.change.Change.TheVariants.{StepChanged}
use Rattle.dq_tables.specs.Rows.{row_of, record_of}
use Rattle.dq_tables.proofs.OwnRows.{found_own}
use Rattle.dq_archive.specs.Archives.{state_in}
use Rattle.dq_archive.proofs.Lookups.{as_record}
use Rattle.dq_archive.proofs.Decisions.{decides_unchanged, decides_change}
use Rattle.dq_mpps.specs.Steps.{spelled_step}
use Rattle.dq_mpps.specs.Views.{step_changed}
use Rattle.dq_mpps.proofs.FittingChanges.{changed_fits}
use Rattle.dq_mpps.proofs.Outcomes.{at_some, refused_by, too_long, changed_to}
use Rattle.dq_mpps.proofs.n_set.decide_changed_step.Goals as goal

pub returns-in_default : goal.returns-in_default
returns-in_default g c =
    let old = c.args.archive.now in
    let sent = c.args.sent.now in
    decides_unchanged g.T.Tables.state old c.row.new.self _ _ c.in_ok-row.field-0 c.in_ok-row.ensures 0x0112 c.unchanged.result c.unchanged.ensures
    (λ h. ap (step_changed sent.uid.now sent.data_set.now)
    (as_record old.institution.now.name _ c.in_ok-row.field-0 (c.in_ok-row.ensures.answered h) ∙ ap (option_map record_of) c.in_default.is))

pub returns-in-Some-attribute_refusal : goal.returns-in-Some-attribute_refusal
returns-in-Some-attribute_refusal g c =
    let old = c.args.archive.now in
    let uid = c.args.sent.now.uid.now in
    let sent = c.args.sent.now.data_set.now in
    let status = c.in-Some-attribute_refusal.status in
    decides_unchanged g.T.Tables.state old c.row.new.self _ _ c.in_ok-row.field-0 c.in_ok-row.ensures status _ c.unchanged-in-Some-attribute_refusal.ensures
    (λ h. ap (step_changed uid sent)
    (as_record old.institution.now.name _ c.in_ok-row.field-0 (c.in_ok-row.ensures.answered h) ∙ ap (option_map record_of) c.in-Some.is)
    ∙ refused_by uid sent (record_of c.in-Some.row) c.in_ok-kept.kept c.in_ok-kept.ensures.data_set status
    (sym c.attribute_refusal.ensures ∙ c.in-Some-attribute_refusal.is))

pub returns-in_default-2 : goal.returns-in_default-2
returns-in_default-2 g c =
    let old = c.args.archive.now in
    let uid = c.args.sent.now.uid.now in
    let sent = c.args.sent.now.data_set.now in
    decides_unchanged g.T.Tables.state old c.row.new.self _ _ c.in_ok-row.field-0 c.in_ok-row.ensures 0x0213 _ c.unchanged-in_default-2.ensures
    (λ h. ap (step_changed uid sent)
    (as_record old.institution.now.name _ c.in_ok-row.field-0 (c.in_ok-row.ensures.answered h) ∙ ap (option_map record_of) c.in-Some.is)
    ∙ too_long uid sent (record_of c.in-Some.row) c.in_ok-kept.kept c.in_ok-kept.ensures.data_set
    (sym c.attribute_refusal.ensures ∙ c.in_default-attribute_refusal.is)
    (sym c.in_ok-octets.ensures.within ∙ ap is_none c.in_default-2.is))

pub returns : goal.returns
returns g c =
    let state = g.T.Tables.state in
    let old = c.args.archive.now in
    let name = old.institution.now.name in
    let uid = c.args.sent.now.uid.now in
    let sent = c.args.sent.now.data_set.now in
    let octets = c.in-Some-2.octets.items in
    let first = c.in_ok-row.ensures in
    let row_is : c.in_ok-changed.changed ≡ row_of name (spelled_step uid octets) =
    c.in_ok-changed.ensures ∙ ap (λ (n : List ℕ). row_of n (spelled_step uid octets)) (c.as_slice-name.ensures ∙ ap (λ x. x.now.name) first.same.institution) in
    decides_change state old c.row.new.self _ _ c.in_ok-row.field-0 first 0 _ (StepChanged (row_of name (spelled_step uid octets)))
    (c.with_change.ensures ∙ ap (λ (row : Row). record { answer = 0; change = Some (StepChanged row) }) row_is)
    refl
    (λ h. ap (step_changed uid sent) (as_record name _ c.in_ok-row.field-0 (first.answered h) ∙ ap (option_map record_of) c.in-Some.is)
    ∙ changed_to uid sent (record_of c.in-Some.row) c.in_ok-kept.kept c.in_ok-kept.ensures.data_set
    (sym c.attribute_refusal.ensures ∙ c.in_default-attribute_refusal.is)
    (sym c.in_ok-octets.ensures.within ∙ ap is_none c.in-Some-2.is)
    octets (at_some _ _ _ c.in_ok-octets.ensures.spelled c.in-Some-2.is))
    (λ h. changed_fits name uid (merged_data_set c.in_ok-kept.kept sent) octets (state_in state old).rows c.in-Some.row
    (g.met.T.Tables.sound old.tables.now (first.reads.goes.was_honest h)).own
    (sym c.in-Some.is ∙ first.answered h ∙ sym (found_own Step name uid (state_in state old).rows))
    (at_some _ _ _ c.in_ok-octets.ensures.spelled c.in-Some-2.is) (at_some _ _ _ c.in_ok-octets.ensures.read_back c.in-Some-2.is))
