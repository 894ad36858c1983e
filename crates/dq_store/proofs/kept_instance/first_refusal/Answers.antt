use Rattle.std.proofs.Common.{Some, sym, ◌∙◌}
use Rattle.dq_config.specs.Limits.{limits_of}
use Rattle.dq_tables.proofs.Refusals.{first_in, first_past}
use Rattle.dq_archive.specs.Archives.{records_in}
use Rattle.dq_archive.proofs.Lookups.{looks_nothing, looks_alike}
use Rattle.dq_store.specs.CStore.{kept_refusals, limit_refusals}
use Rattle.dq_store.specs.Views.{instance_of, records_kept}
use Rattle.dq_store.proofs.kept_instance.first_refusal.Goals as goal

pub returns-in-Some : goal.returns-in-Some
returns-in-Some g c =
    let it = c.args.archive.now in
    let kept = records_kept c.args.kept.now in
    let limited = limit_refusals (limits_of it.institution.now) (records_in g.T.Tables.state it) kept in
    looks_nothing g.T.Tables.state it _ (Some c.in-Some.status)
    (sym (first_in (kept_refusals kept (instance_of c.args.sent.now)) limited c.in-Some.status (sym c.kept_refusal.ensures ∙ c.in-Some.is)))

pub returns : goal.returns
returns g c =
    let it = c.args.archive.now in
    let kept = records_kept c.args.kept.now in
    let limited = limit_refusals (limits_of it.institution.now) (records_in g.T.Tables.state it) kept in
    looks_alike g.T.Tables.state it c.limit_refusal.new.archive _ _ c.limit_refusal.result c.limit_refusal.ensures
    (λ h. sym (first_past (kept_refusals kept (instance_of c.args.sent.now)) limited (sym c.kept_refusal.ensures ∙ c.in_default.is)))
