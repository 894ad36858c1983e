use Rattle.std.proofs.Common.{◌++◌, ℕ, Option, Err, Ok, sym, ap, ◌∙◌}
use Rattle.std.proofs.lemmas.Result.{err_from_is_err_and}
use Rattle.dq_config.specs.Limits.{limits_of}
use Rattle.dq_tables.specs.ServiceEffects.{first_refusal}
use Rattle.dq_tables.proofs.TableCalls.{reads_refused}
use Rattle.dq_archive.specs.Archives.{state_in, records_in}
use Rattle.dq_archive.proofs.Lookups.{looks_then, looks_as}
use Rattle.dq_store.specs.CStore.{Kept, kept_refusals, limit_refusals, instance_refusals}
use Rattle.dq_store.specs.Views.{instance_of, records_kept, rows_among, unless_refused}
use Rattle.dq_store.proofs.Records.{kept_is}
use Rattle.dq_store.proofs.kept_instance.kept_unless_refused.Goals as goal

pub returns-in_err-refusal : goal.returns-in_err-refusal
returns-in_err-refusal g c =
    let state = g.T.Tables.state in
    let old = c.args.archive.now in
    let new = c.first_refusal.new.archive in
    let e = c.in_err-refusal.field-0.0 in
    let left = err_from_is_err_and c.from_residual-in_err-refusal.result c.from_residual-in_err-refusal.ensures.1 in
    let second = looks_then state old c.kept_rows.new.archive new _ c.in_ok-kept.kept c.in_ok-kept.ensures _ (Err e) c.in_err-refusal.ensures in
    rw (left.1, left.2) (record {
      same = second.same;
      reads = reads_refused (state_in state old) (state_in state new) e second.reads;
      answered = λ h. tt;
    })

pub returns-in-Some : goal.returns-in-Some
returns-in-Some g c =
    let state = g.T.Tables.state in
    let old = c.args.archive.now in
    let new = c.first_refusal.new.archive in
    let name = old.institution.now.name in
    let records = records_in state old in
    let limits = limits_of old.institution.now in
    let sent = instance_of c.args.sent.now in
    let kept = c.in_ok-kept.kept in
    let first = c.in_ok-kept.ensures in
    let second = looks_then state old c.kept_rows.new.archive new _ kept first _ _ c.in_ok-refusal.ensures in
    looks_as state old new _ c.in_ok-refusal.refusal second _ (Err c.in-Some.status)
    (λ h. ap (λ (o : Option ℕ). unless_refused o (rows_among name records sent)) (sym c.in-Some.is ∙ second.answered h
    ∙ ap (λ i. first_refusal (kept_refusals (records_kept kept) sent ++ limit_refusals (limits_of i.now) records (records_kept kept))) first.same.institution
    ∙ ap (λ (k : Kept). first_refusal (kept_refusals k sent ++ limit_refusals limits records k))
    (kept_is name records sent kept (first.answered (c.in_ok-refusal.ensures.reads.goes.was_honest h)))))

pub returns-in-None : goal.returns-in-None
returns-in-None g c =
    let state = g.T.Tables.state in
    let old = c.args.archive.now in
    let new = c.first_refusal.new.archive in
    let name = old.institution.now.name in
    let records = records_in state old in
    let limits = limits_of old.institution.now in
    let sent = instance_of c.args.sent.now in
    let kept = c.in_ok-kept.kept in
    let first = c.in_ok-kept.ensures in
    let second = looks_then state old c.kept_rows.new.archive new _ kept first _ _ c.in_ok-refusal.ensures in
    looks_as state old new _ c.in_ok-refusal.refusal second _ (Ok kept)
    (λ h.
    let rows = first.answered (c.in_ok-refusal.ensures.reads.goes.was_honest h) in
    ap (λ (o : Option ℕ). unless_refused o kept) (sym c.in-None.is ∙ second.answered h
    ∙ ap (λ i. first_refusal (kept_refusals (records_kept kept) sent ++ limit_refusals (limits_of i.now) records (records_kept kept))) first.same.institution
    ∙ ap (λ (k : Kept). first_refusal (kept_refusals k sent ++ limit_refusals limits records k)) (kept_is name records sent kept rows))
    ∙ ap (unless_refused (first_refusal (instance_refusals limits records sent))) rows)
