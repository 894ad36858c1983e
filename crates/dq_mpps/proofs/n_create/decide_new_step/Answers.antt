use Rattle.std.proofs.Common.{◌≡◌, ◌∙◌, ℕ, List, ◌∷◌, map, Option, Some, Ok, refl, sym, ap}
use Rattle.dq_tables.specs.declared.row.Row.{Row}
use Rattle.dq_tables.specs.declared.change.Change.TheVariants.{StepAdded}
use Rattle.dq_tables.specs.Rows.{Put, Start, row_of}
use Rattle.dq_tables.specs.ServiceEffects.{refusal_or}
use Rattle.dq_config.specs.Limits.{limits_of}
use Rattle.dq_archive.specs.Archives.{state_in, records_in}
use Rattle.dq_archive.proofs.Lookups.{looks_then}
use Rattle.dq_archive.proofs.Decisions.{decides_unchanged, decides_change}
use Rattle.dq_mpps.specs.Steps.{step_record}
use Rattle.dq_mpps.specs.NCreate.{creation}
use Rattle.dq_mpps.proofs.FittingChanges.{new_step_fits}
use Rattle.dq_mpps.proofs.Outcomes.{free_if_accepted}
use Rattle.dq_mpps.proofs.n_create.decide_new_step.Goals as goal

pub returns-in-Some : goal.returns-in-Some
returns-in-Some g c =
    let old = c.args.archive.now in
    let sent = c.args.sent.now in
    decides_unchanged g.T.Tables.state old c.refusal.new.archive _ _ c.in_ok-status.field-0 c.in_ok-status.ensures c.in-Some.status c.unchanged.result c.unchanged.ensures
    (λ h. ap (λ (o : Option ℕ). refusal_or o (0, creation (records_in g.T.Tables.state old) sent.uid.now sent.data_set.now))
    (sym (c.in_ok-status.ensures.answered h) ∙ c.in-Some.is))

pub returns : goal.returns
returns g c =
    let state = g.T.Tables.state in
    let old = c.args.archive.now in
    let mid = c.refusal.new.archive in
    let new = c.entries_named.new.archive in
    let name = old.institution.now.name in
    let records = records_in state old in
    let uid = c.args.sent.now.uid.now in
    let d = c.args.sent.now.data_set.now in
    let keys = c.in_ok-keys.keys in
    let first = c.in_ok-status.ensures in
    let second = looks_then state old mid new _ c.in_ok-status.field-0 first _ (Ok keys) c.in_ok-keys.ensures in
    let none = λ (h : (state_in state new).honest). sym (first.answered (c.in_ok-keys.ensures.reads.goes.was_honest h)) ∙ c.in_default.is in
    let row_is : c.in_ok-row.row ≡ row_of name (step_record uid d) =
    c.in_ok-row.ensures.row ∙ ap (λ (n : List ℕ). row_of n (step_record uid d)) (c.as_slice.ensures ∙ ap (λ x. x.now.name) second.same.institution) in
    decides_change state old new _ _ keys second 0 _ (StepAdded (row_of name (step_record uid d)) keys)
    (c.with_change.ensures ∙ ap (λ (row : Row). record { answer = 0; change = Some (StepAdded row keys) }) row_is)
    refl
    (λ h. ap (λ (o : Option ℕ). refusal_or o (0, creation records uid d)) (none h)
    ∙ ap (λ (ks : List (List ℕ)). (0, Put (step_record uid d) ∷ map Start ks)) (sym (second.answered h)))
    (λ h. new_step_fits name uid d (state_in state old).rows keys c.in_ok-row.ensures.read_back c.requires.uid
    (free_if_accepted (limits_of old.institution.now) records uid d (none h)) (second.answered h))
